-- What an appender has pushed, the room that is left, and the buffer that it fills.
use Rattle.std.specs.Prelude.{◌≡◌, ℕ, ◌-◌, Bool, false, List, ◌++◌, take, length, replicate}
use Rattle.asn1_bits.specs.declared.bit_appender.BitAppender.{BitAppender}

-- the old bits of the buffer, and what was pushed after them
abbrev pub bits_written : BitAppender → List Bool
bits_written a = take a.position a.target.buffer.now

-- how many bits may still be pushed
abbrev pub room : BitAppender → ℕ
room a = length a.target.buffer.now - a.position

-- the bits that the buffer holds now
abbrev pub bits_held : BitAppender → List Bool
bits_held a = a.target.buffer.now

-- the ghost name of the buffer that it fills
abbrev pub lender_of : BitAppender → ℕ
lender_of a = a.target.buffer.ghost_name

-- how many words of at most 64 bits it has stored in the buffer: `push` stores one and takes no turn, and the pushes with a
-- counter take a turn for each
abbrev pub words_placed : BitAppender → ℕ
words_placed a = a.target.placed.count

-- the buffer holds what was pushed, and zeros for the room that is left
abbrev pub EndsInZeros : BitAppender → Type 0
EndsInZeros a = bits_held a ≡ bits_written a ++ replicate (room a) false
