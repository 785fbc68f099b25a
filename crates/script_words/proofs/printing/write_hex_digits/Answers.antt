use Rattle.std.proofs.Common.{arith}
use Rattle.script_words.proofs.PrintingLemmas.{written_more, fits_less, none_written}
use Rattle.script_words.proofs.printing.write_hex_digits.Goals as goal

pub loop-rest-preserved : goal.loop-rest-preserved
loop-rest-preserved c = record {
  within = omega arith;
  fits = fits_less c.loop-rest.rest c.loop-rest.at (omega arith) c.loop-rest.invariant.fits;
  written = written_more c.loop-rest.rest c.loop-rest.at c.loop-rest.digits _ _ (omega arith) (omega arith) (omega (arith, c.loop-rest.invariant.within)) c.hex_digit.ensures c.loop-rest.invariant.written;
}

pub loop-rest-init : goal.loop-rest-init
loop-rest-init c = record {
  within = omega arith;
  fits = omega arith;
  written = none_written _ c.args.digits.now 32 (omega arith);
}
