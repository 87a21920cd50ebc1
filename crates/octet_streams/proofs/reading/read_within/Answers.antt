use Rattle.std.proofs.Common.{◌≡◌, ℕ, ◌<◌, List, [], ◌++◌, length, take, subst, IfErr, Ok, Err, arith, length-append, length-take}
use Rattle.std.proofs.lemmas.List.{append-nil}
use Rattle.std.specs.Io.KnownBytes.{Consumes}
use Rattle.octet_streams.specs.declared.error.StreamError.TheVariants.{Memory}
use Rattle.octet_streams.proofs.InputLemmas.{consumes_none, consumes_more}
use Rattle.octet_streams.proofs.reading.read_within.Goals as goal

pub loop-init : goal.loop-init
loop-init g c = rw c.new-text.ensures.items (consumes_none (g.R.Read.remaining c.args.input.now))

pub returns-then-count-eq0-clause-text : goal.returns-then-count-eq0-clause-text
returns-then-count-eq0-clause-text g c =
    let old = g.R.Read.remaining c.args.input.now in
    let new = g.R.Read.remaining c.read.new.self in
    let text = c.loop.text.items in
    let none = rw c.if-count-eq0.true at c.in-Ok.ensures.bytes.0 in
    subst (λ (l : List ℕ). Consumes old new l) (append-nil text)
    (consumes_more old (g.R.Read.remaining c.loop.input) new text [] c.loop.invariant none)

pub loop-preserved : goal.loop-preserved
loop-preserved g c =
    rw c.in_ok-extend_from_slice.ensures.items
    (consumes_more (g.R.Read.remaining c.args.input.now) (g.R.Read.remaining c.loop.input)
    (g.R.Read.remaining c.read.new.self) c.loop.text.items _ c.loop.invariant c.in-Ok.ensures.bytes.0)

pub returns-in_err-extend_from_slice-clause-memory :
    goal.returns-in_err-extend_from_slice-clause-memory
returns-in_err-extend_from_slice-clause-memory g c =
    let old = g.R.Read.remaining c.args.input.now in
    let new = g.R.Read.remaining c.read.new.self in
    let read : List ℕ = take c.in-Ok.count c.read.new.buf in
    let all : List ℕ = c.loop.text.items ++ read in
    let some : 0 < length all = grind (arith, length-append {A = ℕ}, length-take {A = ℕ}, c.in-Ok.ensures.bound) in
    let taken : Consumes old new all = consumes_more old (g.R.Read.remaining c.loop.input) new
    c.loop.text.items read c.loop.invariant c.in-Ok.ensures.bytes.0 in
    elim c.from_residual.result as (λ r. IfErr r (λ e. e ≡ Memory → (text : List ℕ) × (0 < length text)
    × Consumes old new text)) [ Ok _ ↦ tt | Err _ ↦ λ _. (all, some, taken) ]
