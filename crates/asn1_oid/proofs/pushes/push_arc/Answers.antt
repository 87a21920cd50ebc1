use Rattle.std.proofs.Common.{◌+◌, ◌/◌, ◌%◌, ◌++◌, arith, refl, ap, ◌∙◌}
use Rattle.asn1_oid.specs.Writing.{HasDigits, last_octets}
use Rattle.asn1_oid.proofs.PushLemmas.{all_pushed, one_pushed, more_pushed}
use Rattle.asn1_oid.proofs.pushes.push_arc.Goals.{then-arc, then-arc-2, then-arc-3, then-arc-4, else-arc-4, else-arc-3, else-arc-2, else-arc}
use Rattle.asn1_oid.proofs.pushes.push_arc.Goals as goal

pub returns-clause-items : goal.returns-clause-items
returns-clause-items c =
    let n = c.args.arc in
    let old = c.args.octets.now.items in
    let new = c.push_reserved-2.new.self.items in
    let b2 = c.if-arc.octets.items in
    let one = one_pushed b2 new n c.push_reserved-2.ensures.items in
    elim c.if-arc.branch [
      | then-arc w ↦
          let b3 = w.if-arc-2.octets.items in
          let two = more_pushed b3 b2 new n (128 + n / 128 % 128) 0 (ap (λ v. v.items) w.octets-is ∙ w.push_reserved-then-arc.ensures.items) one refl in
          elim w.if-arc-2.branch [
            | then-arc-2 x ↦
                let b4 = x.if-arc-3.octets.items in
                let three = more_pushed b4 b3 new n (128 + n / 16384 % 128) 1 (ap (λ v. v.items) x.octets-is ∙ x.push_reserved-then-arc-2.ensures.items) two refl in
                elim x.if-arc-3.branch [
                  | then-arc-3 y ↦
                      let b5 = y.if-arc-4.octets.items in
                      let four = more_pushed b5 b4 new n (128 + n / 2097152 % 128) 2 (ap (λ v. v.items) y.octets-is ∙ y.push_reserved-then-arc-3.ensures.items) three refl in
                      elim y.if-arc-4.branch [
                        | then-arc-4 z ↦
                            let five = more_pushed old b5 new n (128 + n / 268435456 % 128) 3 (ap (λ v. v.items) z.octets-is ∙ z.push_reserved.ensures.items) four refl in
                            let d : HasDigits n 5 = record { some = omega arith; enough = omega arith; fewest = λ more. omega arith } in
                            all_pushed old new n 5 d five
                        | else-arc-4 z ↦
                            let d : HasDigits n 4 = record { some = omega arith; enough = omega arith; fewest = λ more. omega arith } in
                            all_pushed old new n 4 d (four ∙ ap (λ v. v.items ++ last_octets n 4) z.octets-is)
                      ]
                  | else-arc-3 y ↦
                      let d : HasDigits n 3 = record { some = omega arith; enough = omega arith; fewest = λ more. omega arith } in
                      all_pushed old new n 3 d (three ∙ ap (λ v. v.items ++ last_octets n 3) y.octets-is)
                ]
            | else-arc-2 x ↦
                let d : HasDigits n 2 = record { some = omega arith; enough = omega arith; fewest = λ more. omega arith } in
                all_pushed old new n 2 d (two ∙ ap (λ v. v.items ++ last_octets n 2) x.octets-is)
          ]
      | else-arc w ↦
          let d : HasDigits n 1 = record { some = omega arith; enough = omega arith; fewest = λ more. absurd (omega arith) } in
          all_pushed old new n 1 d (one ∙ ap (λ v. v.items ++ last_octets n 1) w.octets-is)
    ]
