use Rattle.std.proofs.Common.{◌≡◌, ℕ, ◌+◌, ◌-◌, ◌*◌, ◌/◌, List, [], ◌∷◌, length, drop, ap, ◌∙◌, sym, arith}
use Rattle.std.specs.Int.{div_ceil}
use Rattle.std.specs.List.{fold}
use Rattle.std.specs.Hash as fed
use Rattle.std.proofs.lemmas.Grind.{fold-append}
use Rattle.asn1_bits.specs.BitLists.{words_fed}
use Rattle.asn1_bits.specs.BitStr.{view_of, bits_of}
use Rattle.asn1_bits.specs.View.{View}
use Rattle.asn1_bits.proofs.HashLemmas.{fed-none, fed-more, number-word, number-last}
use Rattle.asn1_bits.specs.Laws.ViewLaws.{length-list_of}
use Rattle.asn1_bits.proofs.bit_str.BitStrHash.hash.Goals as goal

pub loop-k-init : goal.loop-k-init
loop-k-init g c =
    let start = g.H.Hasher.write c.args.state.now (fed.le_bytes 8 c.args.self.now.len) in
    c.write_usize.ensures
    ∙ sym (ap (λ (l : List (List ℕ)). fold g.H.Hasher.write start l) (fed-none (bits_of c.args.self.now)))

pub loop-k-preserved : goal.loop-k-preserved
loop-k-preserved g c =
    let list = bits_of c.args.self.now in
    let k = c.loop-k.k in
    let start = g.H.Hasher.write c.args.state.now (fed.le_bytes 8 c.args.self.now.len) in
    let word = c.word_of_64.result in
    c.write_u64.ensures
    ∙ ap (λ (s : g.row.H.Denot). g.H.Hasher.write s (fed.le_bytes 8 word)) c.loop-k.invariant
    ∙ sym (ap (λ (l : List (List ℕ)). fold g.H.Hasher.write start l)
    (fed-more list k word (number-word _ word (omega (arith, c.word_of_64.type_inv)) c.word_of_64.ensures))
    ∙ fold-append g.H.Hasher.write start (words_fed list k) (fed.le_bytes 8 word ∷ []))

pub returns-then-tail-gt0 : goal.returns-then-tail-gt0
returns-then-tail-gt0 g c =
    let a = c.args.self.now in
    let list = bits_of a in
    let k = c.loop-k.k in
    let start = λ (n : ℕ). g.H.Hasher.write c.args.state.now (fed.le_bytes 8 n) in
    let word = c.first_u128.result in
    let tail = c.split_at.result.1 in
    let len : a.len ≡ length list = sym (length-list_of (view_of a) a.within) in
    let words : k ≡ a.len / 64 = omega arith in
    let left : tail.len ≡ a.len - 64 * (a.len / 64) = ap (λ (v : View). v.len) c.split_at.ensures.back in
    let all : k + 1 ≡ div_ceil (length list) 64 = omega (arith, c.if-tail-gt0.true, left, len) in
    let last = number-last list (bits_of tail) k tail.len word c.first_u128.ensures.number
    (c.split_at.ensures.back_list ∙ ap (λ (n : ℕ). drop (64 * n) list) (sym words))
    (length-list_of (view_of tail) tail.within) (omega (arith, left)) in
    c.write_u64-then-tail-gt0.ensures
    ∙ ap (λ (s : g.row.H.Denot). g.H.Hasher.write s (fed.le_bytes 8 word)) c.loop-k.invariant
    ∙ sym (ap (λ (l : List (List ℕ)). fold g.H.Hasher.write (start a.len) l) (fed-more list k word last)
    ∙ fold-append g.H.Hasher.write (start a.len) (words_fed list k) (fed.le_bytes 8 word ∷ []))
    ∙ ap (λ (n : ℕ). fold g.H.Hasher.write (start a.len) (words_fed list n)) all
    ∙ ap (λ (n : ℕ). fold g.H.Hasher.write (start n) (words_fed list (div_ceil (length list) 64))) len

pub returns-else-tail-gt0 : goal.returns-else-tail-gt0
returns-else-tail-gt0 g c =
    let a = c.args.self.now in
    let list = bits_of a in
    let start = λ (n : ℕ). g.H.Hasher.write c.args.state.now (fed.le_bytes 8 n) in
    let len : a.len ≡ length list = sym (length-list_of (view_of a) a.within) in
    let left : c.split_at.result.1.len ≡ a.len - 64 * (a.len / 64) = ap (λ (v : View). v.len) c.split_at.ensures.back in
    let all : c.loop-k.k ≡ div_ceil (length list) 64 = omega (arith, c.if-tail-gt0.false, left, len) in
    c.loop-k.invariant
    ∙ ap (λ (n : ℕ). fold g.H.Hasher.write (start a.len) (words_fed list n)) all
    ∙ ap (λ (n : ℕ). fold g.H.Hasher.write (start n) (words_fed list (div_ceil (length list) 64))) len
