-- Laws of contents of any values.
use Rattle.std.proofs.Common.{◌≡◌, ℕ, ◌≤◌, inl, inr, Bool, List, length, sym, ◌∙◌, subst}
use Rattle.asn1_schema.specs.Encodings.{Fault, Contents, FillsOne}
use Rattle.asn1_schema.specs.Laws.EncodingLaws.{at_inside}
use Rattle.asn1_schema.specs.Laws.ContentsLaws.{AreSound}
use Rattle.asn1_x690.specs.TypeContents.{valid, permitted_contents}

pub valid_are_sound : {K X : Type 0} (P : X → List Bool → Type 0) (kind : K) (node : ℕ) → FillsOne P → AreSound (valid P kind node)
valid_are_sound P kind node one = record {
  one = one;
  names = record { excludes = λ list e p x q. p.0 x q; one = λ list e g p q. p.1 ∙ sym q.1 };
  inside = λ list e p. at_inside kind node list e p.1;
}

module _ {K X : Type 0} (Yes : X → Type 0) (kind : K) (node : ℕ) (F : Contents K X) (a : AreSound F) where
  abbrev W : List Bool → Fault K → Type 0
  W list e = (permitted_contents Yes kind node F).fault list e

  excludes : (list : List Bool) (e : Fault K) → W list e → (x : X) → F.fills x list × Yes x → ⊥
  excludes list e (inl p) x q = a.names.excludes list e p x q.0
  excludes list e (inr p) x q =
      let v = p.0 in
      v.2 (subst Yes (a.one.one list x v.0 q.0 v.1) q.1)

  names_one : (list : List Bool) (e g : Fault K) → W list e → W list g → e ≡ g
  names_one list e g (inl p) (inl q) = a.names.one list e g p q
  names_one list e g (inl p) (inr q) = absurd (a.names.excludes list e p q.0.0 q.0.1)
  names_one list e g (inr p) (inl q) = absurd (a.names.excludes list g q p.0.0 p.0.1)
  names_one list e g (inr p) (inr q) = p.1 ∙ sym q.1

  inside : (list : List Bool) (e : Fault K) → W list e → e.left ≤ length list
  inside list e (inl p) = a.inside list e p
  inside list e (inr p) = at_inside kind node list e p.1

  pub permitted_contents_are_sound : AreSound (permitted_contents Yes kind node F)
  permitted_contents_are_sound = record {
    one = record { one = λ list x y p q. a.one.one list x y p.0 q.0 };
    names = record { excludes = excludes; one = names_one };
    inside = inside;
  }
