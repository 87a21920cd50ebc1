-- Parts are as many values as the pieces that they are.
use Rattle.std.proofs.Common.{◌≡◌, ℕ, zero, suc, ◌+◌, ◌-◌, ◌≤◌, Bool, true, false, List, [], ◌∷◌, ◌++◌, length, map, take, drop, refl, sym, ◌∙◌, ap, subst, arith}
use Rattle.std.specs.Prelude.{slice_range}
use Rattle.std.proofs.Math.Seq.{take-append_seam, drop-append_seam}
use Rattle.std.proofs.lemmas.List.{take-append-drop}
use Rattle.asn1_schema.specs.declared.part.Part.{Part}
use Rattle.asn1_schema.specs.declared.part.Part.TheVariants as part
use Rattle.asn1_schema.specs.declared.tables.Range.{Range}
use Rattle.asn1_schema.specs.Pieces.{Piece, Parts}
use Rattle.asn1_schema.specs.PiecesOfParts.{piece_of}
use Rattle.asn1_schema.specs.Values as pieces
use Rattle.asn1_schema_values.specs.Extents.{AreValues, none, more, HasValues, held_by}

module _ (ranges : List Range) (list : List Bool) where
  abbrev f : Part → Piece
  f = piece_of ranges list

  -- a part holds as many values as its piece
  same_held : (p : Part) → pieces.held_by (f p) ≡ held_by p
  same_held part.Absent = refl
  same_held part.Null = refl
  same_held (part.Truth b) = refl
  same_held (part.Integer n) = refl
  same_held (part.Above least at count) = refl
  same_held (part.Signed s) = refl
  same_held (part.Enumerated i) = refl
  same_held (part.UnknownEnumerated i) = refl
  same_held (part.Bits s) = refl
  same_held (part.BitsInFragments g) = refl
  same_held (part.Octets s) = refl
  same_held (part.OctetsInFragments g) = refl
  same_held (part.Text text) = refl
  same_held (part.Sequence count false) = refl
  same_held (part.Sequence count true) = refl
  same_held (part.Additions count) = refl
  same_held (part.Count n) = refl
  same_held (part.Chosen i) = refl
  same_held (part.UnknownChosen i) = refl
  same_held (part.Unknown s) = refl

  take_map : (k : ℕ) (parts : List Part) → take k (map f parts) ≡ map f (take k parts)
  take_map zero parts = refl
  take_map (suc k) [] = refl
  take_map (suc k) (p ∷ parts) = ap (λ (ps : Parts). f p ∷ ps) (take_map k parts)

  drop_map : (k : ℕ) (parts : List Part) → drop k (map f parts) ≡ map f (drop k parts)
  drop_map zero parts = refl
  drop_map (suc k) [] = refl
  drop_map (suc k) (p ∷ parts) = drop_map k parts

  pub parts_are_values : {n : ℕ} {ps : Parts} → pieces.AreValues n ps → (parts : List Part) → map f parts ≡ ps → AreValues n parts
  parts_are_values pieces.none [] e = none
  parts_are_values pieces.none (p ∷ parts) e = cc
  parts_are_values (pieces.more p h o) [] e = cc
  parts_are_values (pieces.more {n} p {held} {others} h o) (q ∷ parts) e =
      let k = length held in
      let is : f q ≡ p = cc in
      let rest : map f parts ≡ held ++ others = cc in
      let front : map f (take k parts) ≡ held = sym (take_map k parts) ∙ ap (take k) rest ∙ take-append_seam held others in
      let back : map f (drop k parts) ≡ others = sym (drop_map k parts) ∙ ap (drop k) rest ∙ drop-append_seam held others in
      let count : pieces.held_by p ≡ held_by q = ap pieces.held_by (sym is) ∙ same_held q in
      let first : AreValues (held_by q) (take k parts) =
      subst (λ (i : ℕ). AreValues i (take k parts)) count (parts_are_values h (take k parts) front) in
      subst (λ (xs : List Part). AreValues (suc n) (q ∷ xs)) (take-append-drop k parts)
      (more q first (parts_are_values o (drop k parts) back))

  pub pieces_have_values : (parts : List Part) (n count : ℕ) → count ≤ length parts → pieces.AreValues n (map f (take count parts))
      → HasValues parts 0 n count
  pieces_have_values parts n count within v =
      let all : count ≡ count - 0 = omega arith in
      record {
        ordered = omega arith;
        within = within;
        values = subst (λ (i : ℕ). AreValues n (take i parts)) all (parts_are_values v (take count parts) refl);
      }
