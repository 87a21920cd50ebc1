use Rattle.std.proofs.Common.{◌≡◌, true, false, ℕ, ◌+◌, ◌<◌, get_or}
use Rattle.std.specs.Prelude.{◌≢◌}
use Rattle.asn1_alphabets.proofs.permitted_set.is_run.Given as goal

abbrev pub invariant-loop-character : goal.invariant-loop-character
invariant-loop-character l = record {
  next : l.next ≡ l.first + l.character-index;
  run : l.run ≡ true → (k : ℕ) → k < l.character-index → get_or l.set k 0 ≡ l.first + k;
  gap : l.run ≡ false → (k : ℕ) × (k < l.character-index) × (get_or l.set k 0 ≢ l.first + k);
}
