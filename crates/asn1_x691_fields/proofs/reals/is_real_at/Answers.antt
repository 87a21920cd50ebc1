use Rattle.std.proofs.Common.{ℕ, ◌/◌, ◌<◌, List, length, drop, sym, ◌∙◌, subst, inl, inr, arith}
use Rattle.std.specs.Prelude.{All}
use Rattle.std.proofs.lemmas.Bool.{cases_lt}
use Rattle.std.proofs.lemmas.List.{get_or_past}
use Rattle.std.proofs.lemmas.List.Elements.{All-get_or}
use Rattle.asn1_bits.specs.Bits.{bits}
use Rattle.asn1_bits.specs.Laws.DigitLaws.{length-bits}
use Rattle.asn1_schema.specs.Reals.{AreOctets, AreReal}
use Rattle.asn1_x691_fields.specs.Octets.{octets_in}
use Rattle.asn1_x691_fields.specs.ContentSteps.{octets_below, bits_of_span, same_span}
use Rattle.asn1_x691_fields.proofs.reals.is_real_at.Goals as goal

each_below : (octets : List ℕ) → All (λ octet. octet < 256) octets → AreOctets octets
each_below octets below i = elim (cases_lt i (length octets)) [
  | inl lt ↦ All-get_or (λ octet. octet < 256) octets i 0 lt below
  | inr le ↦ let e = get_or_past octets i 0 le in omega (arith, e)
]

pub is_real-requires : goal.is_real-requires
is_real-requires c =
    let s = c.args.span in
    let list = drop s.at (bits c.args.message.now) in
    subst AreOctets (sym c.new-octets.ensures) (each_below (octets_in (bits c.args.message.now) s) (octets_below (s.count / 8) list))

pub returns-clause-yes : goal.returns-clause-yes
returns-clause-yes c e =
    let list = bits c.args.message.now in
    let s = c.args.span in (
      octets_in list s,
      octets_below (s.count / 8) (drop s.at list),
      subst AreReal c.new-octets.ensures (c.is_real.ensures.0 e),
      bits_of_span list s (omega (arith, c.requires.inside, length-bits c.args.message.now)) c.requires.whole,
    )

pub returns-clause-no : goal.returns-clause-no
returns-clause-no c e r =
    let list = bits c.args.message.now in
    let s = c.args.span in
    let same = same_span list s (omega (arith, c.requires.inside, length-bits c.args.message.now)) c.requires.whole r.0 r.1 r.3 in
    let yes = c.is_real.ensures.1 (subst AreReal (sym same ∙ sym c.new-octets.ensures) r.2) in
    absurd cc
