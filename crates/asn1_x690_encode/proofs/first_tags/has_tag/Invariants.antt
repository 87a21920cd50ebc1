use Rattle.std.proofs.Common.{◌≡◌, ℕ, ◌+◌, ◌-◌, ◌<◌, Some}
use Rattle.std.specs.Prelude.{slice_get}
use Rattle.asn1_x690.specs.declared.tables.Identifier.{Identifier}
use Rattle.asn1_x690_fields.specs.Outcomes.{IsIdentifier}
use Rattle.asn1_x690_encode.proofs.first_tags.has_tag.Given as goal

abbrev pub invariant-loop-index : goal.invariant-loop-index
invariant-loop-index l =
    (id : Identifier) → IsIdentifier l.found id → (i : ℕ) → i < l.index → slice_get l.tags (l.first.tags.from + i) ≡ Some id.tag → ⊥

abbrev pub decreases-loop-index : goal.decreases-loop-index
decreases-loop-index l = l.first.tags.count - l.index
