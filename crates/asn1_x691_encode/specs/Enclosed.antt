-- What a call did that encodes the octets of an open type after their number.
use Rattle.std.specs.Prelude.{◌≡◌, ℕ, ◌+◌, ◌*◌, ◌<◌, ◌⊎◌, Bool, true, false, List, ◌++◌, length}
use Rattle.asn1_schema.specs.declared.misfit.MisfitKind.{MisfitKind}
use Rattle.asn1_schema.specs.declared.tables.Presence.{Presence}
use Rattle.asn1_schema.specs.Pieces.{Parts}
use Rattle.asn1_x691.specs.OpenTypes.{complete}
use Rattle.asn1_x691_writers.specs.declared.state.Writer.{Writer}
use Rattle.asn1_x691_writers.specs.declared.state.Rejection.TheVariants.{Misfit}
use Rattle.asn1_x691_writers.specs.Enclosed.{length_bits}
use Rattle.asn1_x691_writers.specs.Written.{IsGrown}
use Rattle.asn1_x691_encode.specs.declared.context.Context.{Context}
use Rattle.asn1_x691_encode.specs.Encoding.{tape, value_in, IsLeft}

module _ (c : Context) (depth node : ℕ) (p : Presence) (inner : ℕ) where
  -- `count` octets are a complete encoding of the next parts, and were written after their number
  pub record IsEnclosed (was : List ℕ) (old : Writer) (now : List ℕ) (new : Writer) : Type 0 where
    pub parts : Parts
    pub contents : List Bool
    pub count : ℕ
    pub few : count < 16384
    pub size : length contents ≡ 8 * count
    pub fills : (complete node (value_in c depth node p inner)).fills parts contents
    pub grown : IsGrown was old.at now new.at (length_bits count ++ contents)
    pub end : new.at ≡ old.at + length (length_bits count) + 8 * count
    pub taken : tape c old.next ≡ parts ++ tape c new.next

  -- the next parts begin with no value, and the state names their first misfit
  pub record IsFirstInside (old new : Writer) : Type 0 where
    pub kind : MisfitKind
    pub reason : new.reason ≡ Misfit kind
    pub first : (value_in c depth node p inner 0).misfit (tape c old.next)
        (record { node = new.node; left = length (tape c new.next); kind = kind })

  abbrev pub EnclosedOutcome : List ℕ → Writer → List ℕ → Writer → Bool → Type 0
  EnclosedOutcome was old now new true = IsEnclosed was old now new
  EnclosedOutcome was old now new false = IsFirstInside old new ⊎ IsLeft c new
