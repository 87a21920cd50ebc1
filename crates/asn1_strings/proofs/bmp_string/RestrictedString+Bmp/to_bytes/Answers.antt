use Rattle.std.proofs.Common.{◌≡◌, ◌++◌, length, take, drop, ap, sym, ◌∙◌, arith}
use Rattle.std.specs.List.{flat_map}
use Rattle.std.specs.Int.{w16, to_be_bytes}
use Rattle.std.proofs.Math.Seq.{take-append_seam}
use Rattle.std.proofs.lemmas.List.{map-id}
use Rattle.asn1_strings.proofs.BmpLemmas.{read_back}
use Rattle.asn1_strings.proofs.bmp_string.RestrictedString+Bmp.to_bytes.Goals as goal

pub returns-clause-read_back : goal.returns-clause-read_back
returns-clause-read_back c =
    let octets = c.put_octets.new.octets in
    let rest = drop (length octets) c.resize.new.self.items in
    let long : length octets ≡ c.resize.new.self.len =
    omega (arith, c.put_octets.auto.octets, c.as_mut_slice.ensures.len) in
    let all : take c.resize.new.self.len (octets ++ rest) ≡ flat_map (to_be_bytes w16) c.args.self.now =
    ap (λ k. take k (octets ++ rest)) (sym long) ∙ take-append_seam octets rest ∙ c.put_octets.ensures
    ∙ ap (flat_map (to_be_bytes w16)) (sym (map-id c.as_slice-units.result.now) ∙ c.as_slice-units.ensures.list) in
    rw all (read_back c.args.self.now c.as_slice-units.ensures.in_set)
