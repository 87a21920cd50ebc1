use Rattle.std.proofs.Common.{◌+◌, ◌-◌, ◌/◌, refl, Some, ap, sym, ◌∙◌, arith}
use Rattle.std.proofs.lemmas.Option.{slice_get-get_or}
use Rattle.asn1_alphabets.proofs.AscendingLemmas.{starts, goes_up, goes_down, nowhere, one_more}
use Rattle.asn1_alphabets.proofs.search.find_ascending.Goals as goal

pub loop-low-init : goal.loop-low-init
loop-low-init g c =
    record {
      search =
          rw c.count-high.ensures (starts (g.L.Entries.list c.args.entries.now) c.args.character c.args.probes.now.count);
      same = refl;
      tied = refl;
    }

pub entry-entry-requires : goal.entry-entry-requires
entry-entry-requires g c = rw c.loop-low.invariant.same (omega (arith, c.loop-low.invariant.search.within))

pub returns-then-entry-character-clause-place : goal.returns-then-entry-character-clause-place
returns-then-entry-character-clause-place g c =
    let at = c.loop-low.low + (c.loop-low.high - c.loop-low.low) / 2 in
    let value = rw c.loop-low.invariant.same at c.entry-entry.ensures.value in
    slice_get-get_or (g.L.Entries.list c.args.entries.now) at 0 (omega (arith, c.loop-low.invariant.search.within))
    ∙ ap Some (sym value ∙ c.if-entry-character.true)

pub returns-then-entry-character-clause-same : goal.returns-then-entry-character-clause-same
returns-then-entry-character-clause-same g c = c.entry-entry.ensures.same ∙ c.loop-low.invariant.same

pub returns-then-entry-character-clause-each_look_counts : goal.returns-then-entry-character-clause-each_look_counts
returns-then-entry-character-clause-each_look_counts g c =
    omega (arith, c.entry-entry.ensures.probe, c.entry-entry.ensures.counted, c.loop-low.invariant.tied)

pub returns-then-entry-character-clause-cost : goal.returns-then-entry-character-clause-cost
returns-then-entry-character-clause-cost g c =
    omega (
      arith,
      c.entry-entry.ensures.probe,
      one_more (g.L.Entries.list c.args.entries.now) c.loop-low.low
          c.loop-low.high c.args.character c.args.probes.now.count c.loop-low.probes.count _ c.loop-low.invariant.search
          (omega arith),
    )

pub loop-low-preserved-then-entry-character-2 : goal.loop-low-preserved-then-entry-character-2
loop-low-preserved-then-entry-character-2 g c =
    let value = rw c.loop-low.invariant.same at c.entry-entry.ensures.value in
    record {
      search =
          rw c.entry-entry.ensures.probe
          (goes_up (g.L.Entries.list c.args.entries.now) c.loop-low.low c.loop-low.high c.args.character
          c.args.probes.now.count c.loop-low.probes.count _ c.requires c.loop-low.invariant.search (omega arith)
          (grind (arith, value)));
      same = c.entry-entry.ensures.same ∙ c.loop-low.invariant.same;
      tied = omega (arith, c.entry-entry.ensures.probe, c.entry-entry.ensures.counted, c.loop-low.invariant.tied);
    }

pub loop-low-preserved : goal.loop-low-preserved
loop-low-preserved g c =
    let value = rw c.loop-low.invariant.same at c.entry-entry.ensures.value in
    record {
      search =
          rw c.entry-entry.ensures.probe
          (goes_down (g.L.Entries.list c.args.entries.now) c.loop-low.low c.loop-low.high c.args.character
          c.args.probes.now.count c.loop-low.probes.count _ c.requires c.loop-low.invariant.search (omega arith)
          (grind (arith, value)));
      same = c.entry-entry.ensures.same ∙ c.loop-low.invariant.same;
      tied = omega (arith, c.entry-entry.ensures.probe, c.entry-entry.ensures.counted, c.loop-low.invariant.tied);
    }

pub returns-clause-place : goal.returns-clause-place
returns-clause-place g c =
    nowhere (g.L.Entries.list c.args.entries.now) c.loop-low.low c.loop-low.high c.args.character
    c.args.probes.now.count c.loop-low.probes.count _ c.loop-low.invariant.search (omega arith)

pub returns-clause-same : goal.returns-clause-same
returns-clause-same g c = c.loop-low.invariant.same

pub returns-clause-each_look_counts : goal.returns-clause-each_look_counts
returns-clause-each_look_counts g c = c.loop-low.invariant.tied

pub returns-clause-cost : goal.returns-clause-cost
returns-clause-cost g c = omega (arith, c.loop-low.invariant.search.spent)

pub returns-then-entry-character-clause-looked : goal.returns-then-entry-character-clause-looked
returns-then-entry-character-clause-looked g c =
    omega (arith, c.entry-entry.ensures.probe, c.loop-low.invariant.search.since)

pub returns-clause-counts : goal.returns-clause-counts
returns-clause-counts g c = omega (arith, c.loop-low.invariant.search.since)

pub returns-then-entry-character-clause-counts : goal.returns-then-entry-character-clause-counts
returns-then-entry-character-clause-counts g c =
    omega (arith, c.entry-entry.ensures.probe, c.loop-low.invariant.search.since)
