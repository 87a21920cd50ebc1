-- Octets that are pushed sixteen at a time.
use Rattle.std.proofs.Common.{◌≡◌, ℕ, ◌+◌, ◌*◌, ◌/◌, ◌^◌, ◌<◌, ◌≤◌, Bool, List, [], ◌∷◌, ◌++◌, length, refl, sym, ap, ◌∙◌, append_assoc, arith}
use Rattle.std.specs.Int.{div_ceil}
use Rattle.std.proofs.lemmas.List.{append-nil, length-append}
use Rattle.std.proofs.lemmas.Nat.{pow-add}
use Rattle.std.proofs.Math.Nat.{pow-le-pow_right}
use Rattle.asn1_bits.specs.Bits.{digits, bits}
use Rattle.asn1_bits.specs.Turns.{turns_for}
use Rattle.asn1_bits.specs.declared.bit_appender.BitAppender.{BitAppender}
use Rattle.asn1_bits.specs.BitAppender.{bits_written, room, lender_of, words_placed}
use Rattle.asn1_bits.specs.Laws.DigitLaws.{bits-push, length-bits}
use Rattle.asn1_bits.specs.Laws.NumberLaws.{digits-append, digits-low}
use Rattle.asn1_values.specs.Steps.{PushesList}

-- of all octets those before the rest were taken, the last of them as a word of `width` bits that is yet to be pushed
pub record Pushing (old now : BitAppender) (all rest : List ℕ) (word width count_old count_now : ℕ) : Type 0 where
  pub lender : lender_of now ≡ lender_of old
  pub front : List ℕ
  pub parts : all ≡ front ++ rest
  pub written : bits_written now ++ digits word width ≡ bits_written old ++ bits front
  pub left : room now + 8 * length front ≡ room old + width
  pub small : word < 2 ^ width
  pub wide : width ≤ 128
  pub octet : ℕ
  pub whole : width ≡ 8 * octet
  pub words : ℕ
  pub so_far : 8 * length front ≡ 128 * words + width
  pub turns : count_now ≡ count_old + 2 * words
  pub each_turn_places : count_now + words_placed old ≡ count_old + words_placed now

pub pushing_none : (old : BitAppender) (all : List ℕ) (count : ℕ) → Pushing old old all all 0 0 count count
unfolding digits bits
pushing_none old all count = record {
  lender = refl;
  front = [];
  parts = refl;
  written = refl;
  left = refl;
  small = omega arith;
  wide = omega arith;
  octet = 0;
  whole = refl;
  words = 0;
  so_far = refl;
  turns = omega arith;
  each_turn_places = refl;
}

-- the word is full, and is pushed
pub word_pushed : (old now new : BitAppender) (all rest : List ℕ) (word count_old count_now count_new : ℕ)
    → Pushing old now all rest word 128 count_old count_now
    → lender_of new ≡ lender_of now → bits_written new ≡ bits_written now ++ digits word 128 → room new + 128 ≡ room now
    → count_new + words_placed now ≡ count_now + words_placed new
    → count_now + div_ceil 128 64 ≤ count_new → count_new ≤ count_now + turns_for 128
    → Pushing old new all rest 0 0 count_old count_new
unfolding digits
word_pushed old now new all rest word count_old count_now count_new p lender written left each low high = record {
  lender = lender ∙ p.lender;
  front = p.front;
  parts = p.parts;
  written = append-nil (bits_written new) ∙ written ∙ p.written;
  left = let l = p.left in omega arith;
  small = omega arith;
  wide = omega arith;
  octet = 0;
  whole = refl;
  words = p.words + 1;
  so_far = let s = p.so_far in omega arith;
  turns = let t = p.turns in omega arith;
  each_turn_places = let e = p.each_turn_places in omega arith;
}

-- one octet more is taken
pub octet_taken : (old now : BitAppender) (all rest more : List ℕ) (word width octet count_old count_now : ℕ)
    → Pushing old now all rest word width count_old count_now
    → width ≤ 120 → octet < 256 → rest ≡ octet ∷ more
    → Pushing old now all more (256 * word + octet) (width + 8) count_old count_now
octet_taken old now all rest more word width octet count_old count_now p le lt is =
    let n : ℕ = 256 * word + octet in
    let high : n / 2 ^ 8 ≡ word = omega arith in
    let same : n ≡ word * 2 ^ 8 + octet = omega arith in
    let low : digits n 8 ≡ digits octet 8 = ap (λ (k : ℕ). digits k 8) same ∙ digits-low word octet 8 in
    let both : digits n (width + 8) ≡ digits word width ++ digits octet 8 =
    digits-append n width 8 ∙ ap (λ (k : ℕ). digits k width ++ digits n 8) high
    ∙ ap (λ (l : List Bool). digits word width ++ l) low in
    let longer = length-append p.front (octet ∷ []) in
    let power : 2 ^ (width + 8) ≡ 2 ^ width * 256 = pow-add 2 width 8 in
    record {
      lender = p.lender;
      front = p.front ++ octet ∷ [];
      parts = p.parts ∙ ap (λ (l : List ℕ). p.front ++ l) is ∙ sym (append_assoc p.front (octet ∷ []) more);
      written =
          ap (λ (l : List Bool). bits_written now ++ l) both
          ∙ sym (append_assoc (bits_written now) (digits word width) (digits octet 8))
          ∙ ap (λ (l : List Bool). l ++ digits octet 8) p.written
          ∙ append_assoc (bits_written old) (bits p.front) (digits octet 8)
          ∙ ap (λ (l : List Bool). bits_written old ++ l) (sym (bits-push p.front octet));
      left = let l = p.left in omega arith;
      small = let s = p.small in omega arith;
      wide = omega arith;
      octet = p.octet + 1;
      whole = let w = p.whole in omega arith;
      words = p.words;
      so_far = let s = p.so_far in omega arith;
      turns = p.turns;
      each_turn_places = p.each_turn_places;
    }

-- a word is full, or has room for an octet
pub full_or_not : (old now : BitAppender) (all rest : List ℕ) (word width count_old count_now : ℕ)
    → Pushing old now all rest word width count_old count_now → (width ≡ 128 → ⊥) → width ≤ 120
full_or_not old now all rest word width count_old count_now p ne =
    let w = p.whole in
    let le = p.wide in
    omega arith

-- a word that is not full is below 2 to the power of 120
pub word_fits : (old now : BitAppender) (all rest : List ℕ) (word width count_old count_now : ℕ)
    → Pushing old now all rest word width count_old count_now → (width ≡ 128 → ⊥) → word < 2 ^ 120
word_fits old now all rest word width count_old count_now p ne =
    let le = full_or_not old now all rest word width count_old count_now p ne in
    let up : 2 ^ width ≤ 2 ^ 120 = pow-le-pow_right {n = 2} (omega arith) {i = width} {j = 120} le in
    let s = p.small in
    omega arith

-- all of it
module _ (old now new : BitAppender) (all rest : List ℕ) (word width count_old count_now count_new : ℕ)
    (p : Pushing old now all rest word width count_old count_now) (none : rest ≡ []) where
  whole_front : all ≡ p.front
  whole_front = p.parts ∙ ap (λ (l : List ℕ). p.front ++ l) none ∙ append-nil p.front

  pub all_pushed : lender_of new ≡ lender_of now → bits_written new ≡ bits_written now ++ digits word width
      → room new + width ≡ room now
      → count_new + words_placed now ≡ count_now + words_placed new
      → count_now + div_ceil width 64 ≤ count_new → count_new ≤ count_now + turns_for width
      → PushesList (bits all) old new count_old count_new
  all_pushed lender written left each low high =
      let l = p.left in
      let t = p.turns in
      let s = p.so_far in
      let n = ap length whole_front in
      let m = length-bits all in
      record {
        lender = lender ∙ p.lender;
        written = written ∙ p.written ∙ ap (λ (l : List ℕ). bits_written old ++ bits l) (sym whole_front);
        left = omega arith;
        each_turn_places = let e = p.each_turn_places in omega arith;
        at_least = omega arith;
        at_most = omega arith;
      }
