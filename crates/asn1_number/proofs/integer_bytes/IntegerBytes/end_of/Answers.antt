use Rattle.std.proofs.Common.{[], ◌++◌, drop, ap, ◌∙◌, append-nil}
use Rattle.std.specs.Int.{to_be_bytes, w64}
use Rattle.asn1_number.proofs.integer_bytes.IntegerBytes.end_of.Goals as goal

pub returns : goal.returns
returns c =
    ap (drop c.args.start) (ap (λ o. o ++ (c.to_be_bytes-2.result ++ [])) c.to_be_bytes.ensures
    ∙ ap (λ o. to_be_bytes w64 c.args.high ++ o) (append-nil c.to_be_bytes-2.result ∙ c.to_be_bytes-2.ensures))
