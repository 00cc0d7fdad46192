-- Each figure comes out by computing it.
use Rattle.std.proofs.Common.{refl}
use lib.Ieee.{of_int, round, sum, units, odd, add, sub, mul, div, neg, size, span, climb}
use lib.Count.{count_trailing_zeros}
use Rattle.figures.proofs.figures_hold.Goals as goal

pub returns : goal.returns
unfolding of_int round sum units odd add sub mul div neg size span climb count_trailing_zeros
returns c = record { answer = refl; law = (refl, (refl, (refl, (refl, (refl, (refl, (refl, (refl, tt)))))))) }
