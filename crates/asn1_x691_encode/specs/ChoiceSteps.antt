-- What follows of an alternative that was encoded after its index.
use Rattle.std.proofs.Common.{Option, Some, ◌≡◌, ℕ, ◌+◌, ◌-◌, ◌<◌, List, ◌∷◌, Bool, true, length, sym, subst, inl, inr, refl}
use Rattle.std.specs.Prelude.{slice_get}
use Rattle.std.proofs.lemmas.Bool.{lt-ltb}
use Rattle.asn1_schema.specs.declared.misfit.MisfitKind.TheVariants.{OtherPart, NoEncoding}
use Rattle.asn1_schema.specs.declared.tables.Member.{Member}
use Rattle.asn1_schema.specs.declared.tables.Rows.{Rows}
use Rattle.asn1_schema.specs.Pieces.{Piece, Chosen, Parts}
use Rattle.asn1_schema.specs.Encodings.{CanEncode}
use Rattle.asn1_schema.specs.TypeEncodings.{TypeEncoding}
use Rattle.asn1_x691.specs.declared.fault.FaultKind.{FaultKind}
use Rattle.asn1_x691.specs.Fields.{constrained}
use Rattle.asn1_x691.specs.Types.{alternative_if}
use Rattle.asn1_x691.specs.Limits.{no_limits}
use Rattle.asn1_x691_writers.specs.declared.state.Writer.{Writer}
use Rattle.asn1_x691_writers.specs.Written.{IsWritten}
use Rattle.asn1_x691_encode.specs.declared.context.Context.{Context}
use Rattle.asn1_x691_encode.specs.Encoding.{defaults_in, tape, types, choice_in, alternative_in}
use Rattle.asn1_x691_encode.specs.ListSteps.{IsUnderway, part_step}

module _ (c : Context) (depth node : ℕ) (rows : Rows) where
  -- a part that is no index, and an index without an encoding
  pub choice_other : (p : Piece) → ((i : ℕ) → p ≡ Chosen i → ⊥) → (at : ℕ) (rest : Parts)
      → (choice_in c depth node rows at).misfit (p ∷ rest) (record { node = node; left = length (p ∷ rest); kind = OtherPart })
  choice_other p f at rest = inr (f, refl)

  pub choice_none : (i : ℕ) → ((at : ℕ) → CanEncode (constrained c.is_aligned (rows.count - 1) node at).encodes i → ⊥)
      → (at : ℕ) (rest : Parts)
      → (choice_in c depth node rows at).misfit (Chosen i ∷ rest)
      (record { node = node; left = length (Chosen i ∷ rest); kind = NoEncoding })
  choice_none i f at rest = inl (i, refl, inl (f at, refl))

  -- an index, then the alternative
  pub index_step : (last i : ℕ) (was now : List ℕ) (old mid : Writer) → last ≡ rows.count - 1
      → IsWritten c.is_aligned (constrained c.is_aligned last node) i was old.at now mid.at → tape c old.next ≡ Chosen i ∷ tape c mid.next
      → IsUnderway c (choice_in c depth node rows) (alternative_in c depth node rows i) was old now mid
  index_step last i was now old mid e a is =
      part_step c (constrained c.is_aligned (rows.count - 1) node) Chosen (λ k. alternative_in c depth node rows k) node i
      was now old mid
      (subst (λ (n : ℕ). IsWritten c.is_aligned (constrained c.is_aligned n node) i was old.at now mid.at) e a) is

  -- what holds of the type of a member holds of the alternative
  abbrev alternative_by : Bool → Option Member → ℕ → TypeEncoding FaultKind
  alternative_by b o =
      alternative_if no_limits c.is_aligned (types c depth) c.tables.members.now c.tables.ranges.now (defaults_in c) node b o

  pub the_alternative : (i : ℕ) (m : Member) (P : (ℕ → TypeEncoding FaultKind) → Type 0) → i < rows.count
      → slice_get c.tables.members.now (rows.from + i) ≡ Some m → P (types c depth m.node)
      → P (alternative_in c depth node rows i)
  the_alternative i m P lt some p =
      subst (λ (b : Bool). P (alternative_by b (slice_get c.tables.members.now (rows.from + i)))) (sym (lt-ltb i rows.count lt))
      (subst (λ (o : Option Member). P (alternative_by true o)) (sym some) p)
