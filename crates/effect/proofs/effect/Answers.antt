-- `effect` meets its contract: for each code the law of its answer. Assumes nothing.
use lib.ListN.{length}
use Rattle.effect.specs.Worlds.{unsensing, env_with}
use Rattle.effect.proofs.Codes.{Given, let-var, let-stat, let-byte, let-copy, goto, gosub, return, room, put_byte, put-stored, put-number, put-line, if-then, do-here, until, for, next, input-text, end}
use Rattle.effect.proofs.effect.Goals.{Start}
use Rattle.effect.proofs.effect.Goals as goal

-- every arm begins with what is passed
abbrev given : Start → Given
given s =
    let a = s.args in
    record {
      env = env_with (length a.reply.now) a.lines.page.now a.input.now (unsensing a.access) a.here;
      short = s.requires;
      arg = a.arg;
      x = a.x;
      y = a.y;
      z = a.z;
      vars = a.vars.now;
      memory = a.memory.now;
      output = a.output.now;
      parts = a.parts;
    }

pub returns-in-16 : goal.returns-in-16
returns-in-16 c =
    rw (c.in-16.is, c.set_variable.ensures.value) (let-var (given (goal.at.returns-in-16 c).Start) c.set_variable.ensures.vars_after)

pub returns-in-17 : goal.returns-in-17
returns-in-17 c = rw (c.in-17.is, c.set_stat.ensures) (let-stat (given (goal.at.returns-in-17 c).Start))

pub returns-in-18 : goal.returns-in-18
returns-in-18 c =
    rw (c.in-18.is, c.store_ends.ensures) (let-byte (given (goal.at.returns-in-18 c).Start) c.store_byte.result c.store_byte.ensures)

pub returns-in-21 : goal.returns-in-21
returns-in-21 c =
    rw (c.in-21.is, c.store_ends-in-21.ensures) (let-copy (given (goal.at.returns-in-21 c).Start) c.copy_string.result c.copy_string.ensures)

pub returns-in-22 : goal.returns-in-22
returns-in-22 c = rw (c.in-22.is, c.ends.ensures) (goto (given (goal.at.returns-in-22 c).Start) c.go_to.result c.go_to.ensures)

pub returns-in-23 : goal.returns-in-23
returns-in-23 c =
    rw (c.in-23.is, c.in_gosubs.ensures) (gosub (given (goal.at.returns-in-23 c).Start) c.go_sub.result c.go_sub.ensures)

pub returns-in-24 : goal.returns-in-24
returns-in-24 c =
    rw (c.in-24.is, c.in_gosubs-in-24.ensures) (return (given (goal.at.returns-in-24 c).Start) c.return_from.result c.return_from.ensures)

pub returns-in-25 : goal.returns-in-25
returns-in-25 c =
    rw (c.in-25.is, c.ends-in-25.ensures) (room (given (goal.at.returns-in-25 c).Start) c.print_room.result c.print_room.ensures)

pub returns-in-26 : goal.returns-in-26
returns-in-26 c =
    rw (c.in-26.is, c.item_ends.ensures) (put_byte (given (goal.at.returns-in-26 c).Start) (rw c.low_byte.ensures at c.print_byte.ensures))

pub returns-in-27 : goal.returns-in-27
returns-in-27 c = rw c.in-27.is (put-stored (given (goal.at.returns-in-27 c).Start) c.print_string.ensures)

pub returns-in-28 : goal.returns-in-28
returns-in-28 c =
    rw (c.in-28.is, c.item_ends-in-28.ensures) (put-number (given (goal.at.returns-in-28 c).Start) c.write_number.ensures)

pub returns-in-29 : goal.returns-in-29
returns-in-29 c =
    rw (c.in-29.is, c.item_ends-in-29.ensures) (put-line (given (goal.at.returns-in-29 c).Start) c.print_end.ensures)

pub returns-in-30 : goal.returns-in-30
returns-in-30 c =
    rw (c.in-30.is, c.ends-in-30.ensures) (if-then (given (goal.at.returns-in-30 c).Start) c.if_way.result c.if_way.ensures)

pub returns-in-31 : goal.returns-in-31
returns-in-31 c =
    rw (c.in-31.is, c.in_dos.ensures) (do-here (given (goal.at.returns-in-31 c).Start) c.do_here.result c.do_here.ensures)

pub returns-in-32 : goal.returns-in-32
returns-in-32 c =
    rw (c.in-32.is, c.in_dos-in-32.ensures) (until (given (goal.at.returns-in-32 c).Start) c.until.result c.until.ensures)

pub returns-in-33 : goal.returns-in-33
returns-in-33 c =
    rw (c.in-33.is, c.in_fors.ensures) (for (given (goal.at.returns-in-33 c).Start) c.for_here.result (rw c.low_byte-in-33.ensures at c.for_here.ensures))

pub returns-in-34 : goal.returns-in-34
returns-in-34 c =
    rw (c.in-34.is, c.in_fors-in-34.ensures) (next (given (goal.at.returns-in-34 c).Start) c.next_of.result (rw c.low_byte-in-34.ensures at c.next_of.ensures))

pub returns-in-37 : goal.returns-in-37
returns-in-37 c = rw c.in-37.is (input-text (given (goal.at.returns-in-37 c).Start) c.input_string.ensures)

pub returns-in_default : goal.returns-in_default
returns-in_default c = rw c.ends-in_default.ensures (end (given (goal.at.returns-in_default c).Start) _ c.in_default.in_default-own.rest)
