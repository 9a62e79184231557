-- An answer's parts tell it.
use native.Mathlib.Omega.{arith}
use Rattle.word.proofs.Low.{low_word}
use Rattle.circuit.specs.Decoded.{CountTells, ReportTells, RefusalTells}

pub count-tells : CountTells
count-tells n h = record { refusal_is = omega arith; count-is = omega arith; clipped-is = omega arith }

pub report-tells : ReportTells
report-tells n clips h = record { refusal_is = omega arith; count-is = omega arith; clipped-is = omega arith }

pub refusal-tells : RefusalTells
refusal-tells n p h = record { refusal_is = omega (arith, low_word p); count-is = omega (arith, low_word p); clipped-is = omega (arith, low_word p) }
