use Rattle.std.proofs.Common.{◌≡◌, List, length, refl, sym, subst, arith}
use Rattle.asn1_schema.specs.declared.part.Part.{Part}
use Rattle.asn1_schema_values.specs.Extents.{AreValues}
use Rattle.asn1_builder.proofs.DraftLemmas.{whole_value}
use Rattle.asn1_builder.proofs.builder.Builder.finish.Goals as goal

pub returns-then-end-all-clause-value : goal.returns-then-end-all-clause-value
returns-then-end-all-clause-value c = (
  refl,
  λ none are.
      let parts = c.as_slice-all.result.now in
      let P : List Part → Type 0 = λ xs. AreValues 1 xs in
      let all : AreValues 1 parts = subst P (sym c.as_slice-all.ensures.value) are in
      let same : c.in-Some.end ≡ length parts =
      c.laws_of_extents.ensures 0 1 c.in-Some.end (length parts) c.in-Some.ensures (whole_value parts all) in
      absurd (omega (arith, same)),
)
