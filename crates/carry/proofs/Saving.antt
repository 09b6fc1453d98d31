-- What a save leaves, by its tests in their order. Assumes nothing.
use Prim.Native.Nat.{ℕ, ◌+◌, ◌≤◌, ◌<◌}
use mathlib.Core.Path.{◌≡◌, ap, ◌∙◌}
use mathlib.Core.Bool.{true, false}
use mathlib.Core.List.{List}
use lib.ListN.{length}
use lib.Seq.{sets}
use native.Mathlib.Omega.{arith}
use lib.Dec.{leb}
use borrow.Author.Tests.{le-leb, lt-leb, leb-true}
use Rattle.nibl.specs.Typing.{limit}
use Rattle.nibl.specs.Page.{is_good, fits, used}
use Rattle.nibl.specs.Saved.{saved_form}
use Rattle.nibl.specs.Lent.{Lent, left_all, unchanged, answer_of, no_line}
use Rattle.nibl.specs.FirstRefusals.{page_in_range, memory_in_range, output_in_range}
use Rattle.nibl.specs.Carry.{rule_set_of, save_in_range, saves_in, saves}
use Rattle.page.proofs.Program.{both}
use Rattle.carry.proofs.Forms.{form-length}

-- the lengths that a save asks for
pub record SaveLengths (x : Lent) : Type 0 where
  pub page : length x.page ≤ 4096
  pub memory : length x.memory ≤ 4096
  pub output : length x.output ≤ 65535
  pub outpos : x.call.outpos ≤ length x.output

pub save-lengths : (x : Lent) → save_in_range x ≡ true → SaveLengths x
save-lengths x h =
    let p = both (page_in_range (length x.page)) _ h in
    let m = both (memory_in_range (length x.memory)) _ p.1 in
    let o = both (output_in_range (length x.output)) _ m.1 in
    record {
      page = leb-true _ _ (both (leb 2 (length x.page)) _ p.0).1;
      memory = leb-true _ _ m.0;
      output = leb-true _ _ o.0;
      outpos = leb-true _ _ o.1;
    }

module _ (x : Lent) where
  pub save-1 : save_in_range x ≡ false → unchanged x 1 ≡ saves x
  unfolding saves saves_in
  save-1 a = rw a

  module _ (a : save_in_range x ≡ true) where
    pub save-18 : is_good limit x.page ≡ false → unchanged x 18 ≡ saves x
    unfolding saves saves_in
    save-18 b = rw (a, b)

    module _ (b : is_good limit x.page ≡ true) where
      pub save-19 : fits x.page x.session ≡ false → unchanged x 19 ≡ saves x
      unfolding saves saves_in
      save-19 d = rw (a, b, d)

      module _ (d : fits x.page x.session ≡ true) (n : length x.session.vars ≡ 26) where
        abbrev form : List ℕ
        form = saved_form (rule_set_of x)

        abbrev end : ℕ
        end = x.call.outpos + 56 + used x.page + length x.memory

        ends : end ≡ x.call.outpos + length form
        unfolding used
        ends = omega (arith, form-length (rule_set_of x) n)

        pub save-17 : length x.output < end → unchanged x 17 ≡ saves x
        unfolding saves saves_in
        save-17 h = rw (a, b, d, lt-leb (x.call.outpos + length form) (length x.output) (omega (arith, ends)))

        pub save-0 : end ≤ length x.output
            → left_all (answer_of 0 no_line 0 x.call.inpos end 0) x.session x.page x.memory (sets x.output x.call.outpos form) x.table ≡ saves x
        unfolding saves saves_in
        save-0 h =
            ap (λ (k : ℕ). left_all (answer_of 0 no_line 0 x.call.inpos k 0) x.session x.page x.memory (sets x.output x.call.outpos form) x.table) ends
            ∙ rw (a, b, d, le-leb (x.call.outpos + length form) (length x.output) (omega (arith, ends)))
