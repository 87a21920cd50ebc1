use Rattle.std.proofs.Common.{arith, ◌≡◌, ◌/◌, ◌+◌, ◌*◌, ◌<◌, ◌^◌, [], ◌++◌, drop, length, sym, ap, subst, ◌∙◌, to_z, append-nil}
use Rattle.std.proofs.lemmas.Int.{of_z-to_z}
use Rattle.std.specs.Int.{to_be_bytes, w64, w128}
use Rattle.asn1_number.specs.Octets.{signed, IsShortest}
use Rattle.asn1_number.specs.Shortest.{shortest_octets}
use Rattle.asn1_number.specs.Laws.ShortestLaws.{shortest_octets_are}
use Rattle.asn1_number.specs.Laws.WidthLaws.{length-bytes, signed-bytes}
use Rattle.asn1_number.proofs.SpellingLemmas.{two_words, end_of_word, residue_128}
use Rattle.asn1_number.proofs.WordLemmas.{two_halves}
use Rattle.asn1_number.proofs.integer.Integer.from_words.Goals as goal

-- the octets that are kept are those of the number's bits, and encode it
kept : (c : goal.After-to_be_bytes-2)
    → c.to_be_bytes.result ++ (c.to_be_bytes-2.result ++ []) ≡ to_be_bytes w128 (c.args.high * 2 ^ 64 + c.args.low)
kept c =
    let n = c.args.high * 2 ^ 64 + c.args.low in
    let t = two_halves c.args.high c.args.low (omega arith) in
    ap (λ o. o ++ (c.to_be_bytes-2.result ++ [])) (c.to_be_bytes.ensures ∙ ap (to_be_bytes w64) (sym t.0))
    ∙ ap (λ o. to_be_bytes w64 (n / 2 ^ 64) ++ o) (append-nil c.to_be_bytes-2.result
    ∙ (c.to_be_bytes-2.ensures ∙ ap (to_be_bytes w64) (sym t.1)))
    ∙ two_words n

pub returns : goal.returns
returns c =
    let n = c.args.high * 2 ^ 64 + c.args.low in
    let b : n < 2 ^ 128 = omega arith in
    ap signed (kept c) ∙ signed-bytes 15 n b

pub invariant_of-result : goal.invariant_of-result
invariant_of-result c =
    let n = c.args.high * 2 ^ 64 + c.args.low in
    let b : n < 2 ^ 128 = omega arith in
    let last : drop c.args.start (c.to_be_bytes.result ++ (c.to_be_bytes-2.result ++ [])) ≡ shortest_octets (to_z w128 n) =
    ap (drop c.args.start) (kept c)
    ∙ end_of_word 16 c.args.start n (to_z w128 n) c.requires (sym (of_z-to_z w128 n b) ∙ residue_128 (to_z w128 n)) in (
      ap length (kept c) ∙ length-bytes 16 n,
      subst (λ o. IsShortest (signed (c.to_be_bytes.result ++ (c.to_be_bytes-2.result ++ []))) o) (sym last)
          (subst (λ z. IsShortest z (shortest_octets (to_z w128 n))) (sym (returns c)) (shortest_octets_are (to_z w128 n))),
    )
