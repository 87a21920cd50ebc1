use Rattle.std.proofs.Common.{◌++◌, arith}
use Rattle.asn1_oid.specs.Writing.{low_octets}
use Rattle.asn1_oid.proofs.PushLemmas.{lowest_pushed, all_lowest_pushed}
use Rattle.asn1_oid.proofs.pushes.push_word.Goals as goal

pub loop-pushed-preserved : goal.loop-pushed-preserved
loop-pushed-preserved c =
    let so_far = c.loop-pushed.invariant in
    let pushed = c.push_reserved.ensures in
    record {
      items = lowest_pushed c.loop-pushed.octets.items c.push_reserved.new.self.items
          (c.args.octets.now.items ++ low_octets c.args.word c.args.count) c.loop-pushed.rest c.args.count
          c.loop-pushed._pushed c.loop-pushed-test.true so_far.items pushed.items;
      len = let here = so_far.len in let more = pushed.len in omega arith;
      capacity = let here = so_far.capacity in let same = pushed.capacity in omega arith;
    }

pub returns-clause-items : goal.returns-clause-items
returns-clause-items c =
    all_lowest_pushed c.loop-pushed.octets.items (c.args.octets.now.items ++ low_octets c.args.word c.args.count)
    c.loop-pushed.rest c.args.count c.loop-pushed._pushed (omega arith) c.loop-pushed.invariant.items
