-- `steps` is safe: a good page with a record that fits is run.
use Rattle.std.proofs.Common.{sym, refl, ◌∙◌, arith}
use Rattle.nibl.specs.Typing.{limit}
use Rattle.nibl.specs.Record.{nowhere}
use Rattle.record.proofs.Fitted.{known-sized, sound-fit, fit-paused}
use Rattle.rounds.proofs.steps.Goals as goal

pub run_steps-ran-requires : goal.run_steps-ran-requires
run_steps-ran-requires c =
    let good = sym c.is_good.ensures ∙ c.if-not-is_good.false in
    let fitting = sym c.fits.ensures ∙ c.if-not-fits.false in
    let fit = sound-fit {lim = limit} (record { good = good; fitting = fitting; sized = known-sized c.args.session c.well_formed.1.0 }) in
    let short = c.if-page-gt4096.false in (
      record {
        places = omega arith;
        short = omega arith;
        good = good;
        room = omega arith;
        stack = omega arith;
        reply_ops = omega arith;
        reply_values = omega arith;
        fits = rw c.parts.ensures (fit-paused fit nowhere refl);
        stands = refl;
        steps = omega arith;
      },
      c.requires,
    )
