-- The contents of object identifiers (X.690 8.19).
use Rattle.std.specs.Prelude.{◌≡◌, ◌≢◌, ℕ, ◌+◌, ◌*◌, ◌%◌, ◌^◌, ◌<◌, ◌≤◌, ◌⊎◌, List, [], ◌∷◌, ◌++◌, length, slice_index, All}
use Rattle.asn1_oid.specs.Arcs.{IsValidArcs}

-- ---- subidentifiers (8.19.2)

-- bit 8 of each octet says whether it is the last of the series: it is zero in the last, and one in
-- each before it
abbrev pub IsSeries : List ℕ → Type 0
IsSeries [] = ⊥
IsSeries (octet ∷ octets) =
    ((octet < 128) × (octets ≡ [])) ⊎ ((128 ≤ octet) × (octet < 256) × IsSeries octets)

-- the number whose binary digits are bits 7 to 1 of each octet, the first octet the most
-- significant
unfoldable pub base_128 : List ℕ → ℕ
base_128 [] = 0
base_128 (octet ∷ octets) = octet % 128 * 128 ^ length octets + base_128 octets

-- the octets encode n as a subidentifier, in the minimal number of octets: the first is not 80 (hexadecimal)
pub record IsSubidentifier (n : ℕ) (octets : List ℕ) : Type 0 where
  pub series : IsSeries octets
  pub value : base_128 octets ≡ n
  pub fewest : slice_index octets 0 ≢ 128

-- the octets are subidentifiers one after another, one for each number
abbrev pub AreSubidentifiers : List ℕ → List ℕ → Type 0
AreSubidentifiers [] octets = octets ≡ []
AreSubidentifiers (n ∷ numbers) octets =
    (front : List ℕ) × (rest : List ℕ) × IsSubidentifier n front × AreSubidentifiers numbers rest
    × (octets ≡ front ++ rest)

-- ---- contents

-- one number for the first two arcs, X and Y: 40 * X + Y (8.19.4); then each further arc (8.19.5)
abbrev pub subidentifiers : List ℕ → List ℕ
subidentifiers (x ∷ y ∷ arcs) = (40 * x + y) ∷ arcs
subidentifiers arcs = []

-- the octets are the contents of the arcs, of which there are at least two; an arc may be of any
-- size
pub record IsContents (arcs octets : List ℕ) : Type 0 where
  pub valid : IsValidArcs arcs
  pub two : 2 ≤ length arcs
  pub spelled : AreSubidentifiers (subidentifiers arcs) octets

-- an identifier of the program can hold the arcs
abbrev pub FitU32 : List ℕ → Type 0
FitU32 arcs = All (λ arc. arc < 2 ^ 32) arcs

-- ---- laws

-- every list of at least two valid arcs has contents, and no others
abbrev pub EachHasOneContents : Type 0
EachHasOneContents =
    (arcs : List ℕ) → IsValidArcs arcs → 2 ≤ length arcs
    → (octets : List ℕ) × IsContents arcs octets × ((other : List ℕ) → IsContents arcs other → other ≡ octets)

-- octets are the contents of no two lists of arcs
abbrev pub ContentsAreOfOneList : Type 0
ContentsAreOfOneList = (xs ys octets : List ℕ) → IsContents xs octets → IsContents ys octets → xs ≡ ys
