use Rattle.std.proofs.Common.{◌∙◌}
use Rattle.asn1_bits.specs.BitStr.{view_of}
use Rattle.asn1_bits.proofs.ReadWideLemmas.{IsFront, front-read}
use Rattle.asn1_bits.proofs.bit_str.BitStr.first_u128.Given.{Over}
use Rattle.asn1_bits.proofs.bit_str.BitStr.first_u128.Goals as goal

few : (g : Over) (c : goal.After-from g) → IsFront (view_of c.args.self.now) c.args.width c.from.result
few g c =
    let v = view_of c.args.self.now in
    front-read v c.args.width c.from.result c.args.self.now.within c.requires.len (c.from.ensures ∙ c.read_57.ensures)

many : (g : Over) (c : goal.After-from-then-width-le64 g) → IsFront (view_of c.args.self.now) c.args.width c.from-then-width-le64.result
many g c =
    let v = view_of c.args.self.now in
    front-read v c.args.width c.from-then-width-le64.result c.args.self.now.within c.requires.len (c.from-then-width-le64.ensures ∙ c.read_64.ensures)

long : (g : Over) (c : goal.After-read_128 g) → IsFront (view_of c.args.self.now) c.args.width c.read_128.result
long g c =
    let v = view_of c.args.self.now in
    front-read v c.args.width c.read_128.result c.args.self.now.within c.requires.len c.read_128.ensures

pub returns-then-width-le57-clause-number : goal.returns-then-width-le57-clause-number
returns-then-width-le57-clause-number g c = (few g c).number

pub returns-then-width-le57-clause-digits : goal.returns-then-width-le57-clause-digits
returns-then-width-le57-clause-digits g c = (few g c).digits

pub returns-then-width-le57-clause-below : goal.returns-then-width-le57-clause-below
returns-then-width-le57-clause-below g c = (few g c).below

pub returns-then-width-le64-clause-number : goal.returns-then-width-le64-clause-number
returns-then-width-le64-clause-number g c = (many g c).number

pub returns-then-width-le64-clause-digits : goal.returns-then-width-le64-clause-digits
returns-then-width-le64-clause-digits g c = (many g c).digits

pub returns-then-width-le64-clause-below : goal.returns-then-width-le64-clause-below
returns-then-width-le64-clause-below g c = (many g c).below

pub returns-clause-number : goal.returns-clause-number
returns-clause-number g c = (long g c).number

pub returns-clause-digits : goal.returns-clause-digits
returns-clause-digits g c = (long g c).digits

pub returns-clause-below : goal.returns-clause-below
returns-clause-below g c = (long g c).below
