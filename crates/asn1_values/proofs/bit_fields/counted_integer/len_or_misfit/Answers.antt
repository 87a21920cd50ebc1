use Rattle.std.proofs.Common.{refl, arith}
use Rattle.asn1_number.specs.Laws.LawsHold.{one_shortest_list}
use Rattle.asn1_values.proofs.SpellingLemmas.{counted_fits}
use Rattle.asn1_values.proofs.bit_fields.counted_integer.len_or_misfit.Goals as goal

pub returns-then-octets-gt127 : goal.returns-then-octets-gt127
returns-then-octets-gt127 c =
    let one = one_shortest_list c.args.number.now in
    record {
      ok = tt;
      err = (
        refl,
        (one.0, one.1, omega (arith, c.signed_len-octets.ensures one.0 one.1, c.if-octets-gt127.true)),
      );
    }

pub returns : goal.returns
returns c =
    let n = c.args.number.now in
    let one = one_shortest_list n in
    let len = c.signed_len-octets.ensures one.0 one.1 in
    record { ok = rw len (counted_fits n one.0 one.1 (omega (arith, len, c.if-octets-gt127.false))); err = tt }
