-- What the calls answer, by the reading of the octets.
use Rattle.std.proofs.Common.{◌≡◌, ◌≢◌, ℕ, ◌<◌, true, List, Result, Ok, Err, refl, sym, ap, ◌∙◌}
use Rattle.std.specs.Prelude.{◌↔◌, All, MatchResult, is_ok}
use Rattle.asn1_oid.specs.Contents.{IsContents, FitU32}
use Rattle.asn1_oid.specs.declared.contents.ContentsError.{ContentsError}
use Rattle.asn1_oid.specs.declared.contents.ContentsError.TheVariants.{Malformed, ArcTooLarge, Memory}
use Rattle.asn1_oid.specs.Reading.{contents_reading}
use Rattle.asn1_oid.specs.Laws.ReadingLaws.{contents_read, large_read, none_read, arcs_from_reading, large_from_reading, none_from_reading, no_want_of_memory}

abbrev Reading : Type 0
Reading = Result (List ℕ) ContentsError

-- what is examined answers by the reading
abbrev pub Agrees : {A : Type 0} → List ℕ → Result A ContentsError → Type 0
Agrees octets r = MatchResult r (λ _. is_ok (contents_reading octets) ≡ true) (λ e. contents_reading octets ≡ Err e)

read_arcs : (r : Reading) → is_ok r ≡ true → (arcs : List ℕ) × (r ≡ Ok arcs)
read_arcs (Ok arcs) e = (arcs, refl)
read_arcs (Err x) e = absurd cc

reading_is_err : (x : ContentsError) (arcs : List ℕ) → ◌≡◌ {A = Reading} (Err x) (Ok arcs) → ⊥
reading_is_err x arcs e = cc

same_refusal : (x y : ContentsError) → ◌≡◌ {A = Reading} (Err x) (Err y) → x ≡ y
same_refusal x y e = cc

module _ {A : Type 0} where
  refusal_is : (x y : ContentsError) → ◌≡◌ {A = Result A ContentsError} (Err x) (Err y) → x ≡ y
  refusal_is x y e = cc

  no_refusal : (x : A) (y : ContentsError) → ◌≡◌ {A = Result A ContentsError} (Ok x) (Err y) → ⊥
  no_refusal x y e = cc

  pub ok_iff : (octets : List ℕ) (r : Result A ContentsError) → All (λ octet. octet < 256) octets → Agrees octets r
      → is_ok r ≡ true ↔ ((arcs : List ℕ) × IsContents arcs octets × FitU32 arcs)
  ok_iff octets (Ok x) are a =
      let p = read_arcs (contents_reading octets) a in
      let t = arcs_from_reading p.0 octets are p.1 in
      (λ ok. (p.0, t.0, t.1), λ some. refl)
  ok_iff octets (Err e) are a = (
    λ ok. absurd cc,
    λ some. absurd (reading_is_err e some.0
        (sym a ∙ contents_read some.0 octets are some.1 some.2)),
  )

  pub large_iff : (octets : List ℕ) (r : Result A ContentsError) → All (λ octet. octet < 256) octets → Agrees octets r
      → (r ≡ Err ArcTooLarge) ↔ ((arcs : List ℕ) × IsContents arcs octets × ¬ (FitU32 arcs))
  large_iff octets (Ok x) are a =
      let p = read_arcs (contents_reading octets) a in (
        λ e. absurd (no_refusal x ArcTooLarge e),
        λ some. absurd (reading_is_err ArcTooLarge p.0 (sym (large_read some.0 octets are some.1 some.2) ∙ p.1)),
      )
  large_iff octets (Err e) are a = (
    λ is. large_from_reading octets are (a ∙ ap (λ (x : ContentsError). Err x) (refusal_is e ArcTooLarge is)),
    λ some. ap (λ (x : ContentsError). Err x)
        (same_refusal e ArcTooLarge (sym a ∙ large_read some.0 octets are some.1 some.2)),
  )

  pub none_iff : (octets : List ℕ) (r : Result A ContentsError) → All (λ octet. octet < 256) octets → Agrees octets r
      → (r ≡ Err Malformed) ↔ ((arcs : List ℕ) → ¬ (IsContents arcs octets))
  none_iff octets (Ok x) are a =
      let p = read_arcs (contents_reading octets) a in (
        λ e. absurd (no_refusal x Malformed e),
        λ none. absurd (reading_is_err Malformed p.0 (sym (none_read octets are none) ∙ p.1)),
      )
  none_iff octets (Err e) are a = (
    λ is. none_from_reading octets are (a ∙ ap (λ (x : ContentsError). Err x) (refusal_is e Malformed is)),
    λ none. ap (λ (x : ContentsError). Err x) (same_refusal e Malformed (sym a ∙ none_read octets are none)),
  )

  pub no_memory : (octets : List ℕ) (r : Result A ContentsError) → All (λ octet. octet < 256) octets → Agrees octets r
      → r ≢ Err Memory
  no_memory octets (Ok x) are a = λ e. no_refusal x Memory e
  no_memory octets (Err e) are a =
      λ is. no_want_of_memory octets are (a ∙ ap (λ (x : ContentsError). Err x) (refusal_is e Memory is))

-- ---- where the octets are contents

pub some_arcs : (octets : List ℕ) → All (λ octet. octet < 256) octets → is_ok (contents_reading octets) ≡ true
    → (arcs : List ℕ) × IsContents arcs octets × FitU32 arcs
some_arcs octets are ok =
    let p = read_arcs (contents_reading octets) ok in
    let t = arcs_from_reading p.0 octets are p.1 in
    (p.0, t.0, t.1)

-- an arc is not too large, and the octets are not malformed
pub none_large : (octets : List ℕ) → All (λ octet. octet < 256) octets → is_ok (contents_reading octets) ≡ true
    → ((arcs : List ℕ) × IsContents arcs octets × ¬ (FitU32 arcs)) → ⊥
none_large octets are ok some =
    let p = read_arcs (contents_reading octets) ok in
    reading_is_err ArcTooLarge p.0 (sym (large_read some.0 octets are some.1 some.2) ∙ p.1)

pub not_malformed : (octets : List ℕ) → All (λ octet. octet < 256) octets → is_ok (contents_reading octets) ≡ true
    → ((arcs : List ℕ) → ¬ (IsContents arcs octets)) → ⊥
not_malformed octets are ok none =
    let p = read_arcs (contents_reading octets) ok in
    reading_is_err Malformed p.0 (sym (none_read octets are none) ∙ p.1)

pub not_refused : (octets arcs : List ℕ) (e : ContentsError) → All (λ octet. octet < 256) octets
    → contents_reading octets ≡ Err e → IsContents arcs octets → FitU32 arcs → ⊥
not_refused octets arcs e are is c fit = reading_is_err e arcs (sym is ∙ contents_read arcs octets are c fit)
