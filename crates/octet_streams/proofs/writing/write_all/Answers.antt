use Rattle.std.proofs.Common.{◌≡◌, ℕ, List, ◌-◌, ◌++◌, length, length-drop, take, drop, take_all, take-append-drop, append_assoc, sym, ap, ◌∙◌, arith}
use Rattle.octet_streams.proofs.OutputLemmas.{appends_more}
use Rattle.octet_streams.proofs.writing.write_all.Goals as goal

pub loop-preserved : goal.loop-preserved
loop-preserved g c =
    let n = c.in_ok-count.count in
    let left = c.loop.rest.now in
    let front : List ℕ = c.loop.invariant.0 in
    let all : take (length left - n) (drop n left) ≡ drop n left =
    take_all (length left - n) (drop n left) (simp length-drop (omega arith)) in
    let cut : left ≡ take n left ++ take (length left - n) (drop n left) =
    sym (take-append-drop n left) ∙ ap (λ (l : List ℕ). take n left ++ l) (sym all) in
    let contents = g.W.Write.contents in (
      front ++ take n left,
      c.loop.invariant.1 ∙ ap (λ (l : List ℕ). front ++ l) cut
          ∙ sym (append_assoc front (take n left) (take (length left - n) (drop n left))),
      appends_more (contents c.args.output.now) (contents c.loop.output) (contents c.write_some.new.output) front
          (take n left) c.loop.invariant.2 c.in_ok-count.ensures.written,
    )
