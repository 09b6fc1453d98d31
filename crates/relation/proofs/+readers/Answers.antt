-- The cycle of readers: one law for each way out. Assumes nothing.
use Rattle.std.specs.Prelude.{None}
use Rattle.std.proofs.Common.{◌≡◌, refl, sym, ◌∙◌, arith, ◌+◌, rules}
use Rattle.nibl.specs.found.Read.{give, read, factor, factors, terms}
use Rattle.nibl.specs.Grammar.{factor_joints, term_joints, sum_joints}
use Rattle.nibl.specs.Tree.{stat, top, byte_at, invert}
use Rattle.nibl.proofs.Sound.{read-term, read-factors, read-terms, read-related}
use Rattle.word.proofs.Spelled.{unspaced}
use Rattle.relation.specs.Makes.{stopped, waiting}
use Rattle.relation.proofs.Signs.{stood-over, key-past, joint-by, joint-absent, none_left, ◌but◌}
use Rattle.relation.proofs.States.{key-low, key-few, key-filled, settles-ahead, settles-size, settles-here, last-here, none-here, written-here}
use Rattle.relation.proofs.Ways.{waiting-first, waiting-on, waiting-end, waiting-last, waiting_none, waiting-stop, relating-first, relating-second, relating-stop, factor-bracket, factor-prefix, factor-pair, pair_is, pair-unopened, pair-half}
use Rattle.relation.proofs.Factors.{begun, from-spaces, one_word, operand_read, operand-unread, unread-read, form-read, rest-none, rest-other, lead-waiting, stat-code, top-code, byte-code, not_code}
use Rattle.relation.proofs.+readers.Goals as goal

pub closed-returns-in_err-d : goal.closed-returns-in_err-d
closed-returns-in_err-d t c =
    let e : c.from_residual.result ≡ None = search rules in
    rw e record { state = None; reads = c.in_err-d.ensures; closes = stopped }

pub closed-returns : goal.closed-returns
closed-returns t c = record { state = _; reads = c.in_ok-d.ensures; closes = key-past _ c.past_symbol.ensures }

pub factor_at-operand_at-operand-requires : goal.factor_at-operand_at-operand-requires
factor_at-operand_at-operand-requires t c =
    let h = c.requires in
    let e = c.space_end-i.ensures in
    (omega arith, unspaced c.args.text.now c.args.from _ e)

pub factor_at-returns-then-is_some : goal.factor_at-returns-then-is_some
factor_at-returns-then-is_some t c = from-spaces c.space_end-i.ensures (operand_read c.operand_at-operand.ensures (sym c.is_some.ensures ∙ c.if-is_some.true))

pub factor_at-factor_rest-requires : goal.factor_at-factor_rest-requires
factor_at-factor_rest-requires t c =
    let h = c.requires in
    let d = c.decreases in
    let e = c.space_end-i.ensures in
    let u = operand-unread c.operand_at-operand.ensures (sym c.is_some.ensures ∙ c.if-is_some.false) in
    (omega arith, (omega (arith, u.count, c.operand_at-operand.auto.ops), record { unspaced = unspaced c.args.text.now c.args.from _ e; other = u.other }))

pub factor_at-returns : goal.factor_at-returns
factor_at-returns t c =
    let u = operand-unread c.operand_at-operand.ensures (sym c.is_some.ensures ∙ c.if-is_some.false) in
    from-spaces c.space_end-i.ensures (unread-read u c.factor_rest.ensures)

pub factor_rest-returns-in_err-form : goal.factor_rest-returns-in_err-form
factor_rest-returns-in_err-form t c =
    let f : c.from_residual.result ≡ None = search rules in
    rw f (rest-none c.requires.1 (λ e. c.if-byte_at-eq-HASH.false (c.byte_at.ensures ∙ e)) c.in_err-form.ensures)

pub factor_rest-returns-in-40 : goal.factor_rest-returns-in-40
factor_rest-returns-in-40 t c =
    let x = c.closed.ensures in
    factor-bracket (begun _ (form-read 40 c.in_ok-form.ensures c.in-40.is (omega arith)) refl) x.reads x.closes

pub factor_rest-returns-in-64 : goal.factor_rest-returns-in-64
factor_rest-returns-in-64 t c =
    let x = c.followed.ensures in
    factor-prefix byte_at byte-code (begun _ (form-read 64 c.in_ok-form.ensures c.in-64.is (omega arith)) refl) x.reads x.settles

pub factor_rest-returns-in-147 : goal.factor_rest-returns-in-147
factor_rest-returns-in-147 t c =
    let p = c.put.ensures in one_word stat stat-code refl (form-read 147 c.in_ok-form.ensures c.in-147.is (omega arith)) p.0 p.1

pub factor_rest-returns-in-148 : goal.factor_rest-returns-in-148
factor_rest-returns-in-148 t c =
    let p = c.put-in-148.ensures in one_word top top-code refl (form-read 148 c.in_ok-form.ensures c.in-148.is (omega arith)) p.0 p.1

pub factor_rest-returns-in-152 : goal.factor_rest-returns-in-152
factor_rest-returns-in-152 t c =
    let x = c.followed-in-152.ensures in
    factor-prefix invert not_code (begun _ (form-read 152 c.in_ok-form.ensures c.in-152.is (omega arith)) refl) x.reads x.settles

pub factor_rest-returns-in-149 : goal.factor_rest-returns-in-149
factor_rest-returns-in-149 t c = factor-pair (begun _ (form-read 149 c.in_ok-form.ensures c.in-149.is (omega arith)) refl) c.modulo_at.ensures

pub factor_rest-returns-in_default : goal.factor_rest-returns-in_default
factor_rest-returns-in_default t c =
    rest-other c.in_ok-form.ensures
    ((λ e. omega arith) but (λ e. omega arith) but (λ e. omega arith) but (λ e. omega arith) but (λ e. omega arith) but (λ e. omega arith) but none_left)

pub followed-returns-in_err-d : goal.followed-returns-in_err-d
followed-returns-in_err-d t c =
    let e : c.from_residual.result ≡ None = search rules in
    rw e record { between = _; state = None; reads = c.in_err-d.ensures; settles = stopped }

pub followed-settle-requires : goal.followed-settle-requires
followed-settle-requires t c =
    let h = c.requires in
    let y = c.in_ok-d.ensures in
    omega (arith, y.few (waiting c.args.waits), c.factor_at.auto.ops)

pub followed-returns : goal.followed-returns
followed-returns t c =
    let w = c.settle.ensures in
    record { between = _; state = _; reads = c.in_ok-d.ensures; settles = settles-here c.args.waits w.0 w.1 }

pub modulo_at-returns-in_err-a : goal.modulo_at-returns-in_err-a
modulo_at-returns-in_err-a t c =
    let e : c.from_residual.result ≡ None = search rules in
    rw e (pair-unopened (key-past c.args.n.now c.in_err-a.ensures))

pub modulo_at-returns-in_err-b : goal.modulo_at-returns-in_err-b
modulo_at-returns-in_err-b t c =
    let e : c.from_residual-in_err-b.result ≡ None = search rules in
    let x = c.in_err-b.ensures in
    rw e (pair-half (key-past c.args.n.now c.in_ok-a.ensures) x.reads x.closes)

pub modulo_at-closed-requires-2 : goal.modulo_at-closed-requires-2
modulo_at-closed-requires-2 t c =
    let h = c.requires in
    let d = c.decreases in
    let i = key-past c.args.n.now c.in_ok-a.ensures in
    let x = c.in_ok-b.ensures in
    (omega (arith, key-low i, x.reads.low, key-low x.closes), (omega (arith, key-few i 0, x.reads.few 0, key-few x.closes 0, c.closed.auto.ops), refl))

pub modulo_at-returns-in_err-c : goal.modulo_at-returns-in_err-c
modulo_at-returns-in_err-c t c =
    let e : c.from_residual-in_err-c.result ≡ None = search rules in
    let x = c.in_ok-b.ensures in
    let z = c.in_err-c.ensures in
    rw e (pair_is (key-past c.args.n.now c.in_ok-a.ensures) x.reads x.closes z.reads z.closes stopped)

pub modulo_at-put-requires : goal.modulo_at-put-requires
modulo_at-put-requires t c =
    let h = c.requires in
    let i = key-past c.args.n.now c.in_ok-a.ensures in
    let x = c.in_ok-b.ensures in
    let z = c.in_ok-c.ensures in
    omega (arith, key-few i 0, x.reads.few 0, key-few x.closes 0, z.reads.few 0, key-filled z.closes, c.closed.auto.ops, c.closed-2.auto.ops)

pub modulo_at-returns : goal.modulo_at-returns
modulo_at-returns t c =
    let x = c.in_ok-b.ensures in
    let z = c.in_ok-c.ensures in
    let p = c.put.ensures in
    pair_is (key-past c.args.n.now c.in_ok-a.ensures) x.reads x.closes z.reads z.closes (written-here p.0 p.1)

pub relation_at-loop-d-init : goal.relation_at-loop-d-init
relation_at-loop-d-init t c = relating-first _ _

pub relation_at-sum_at-requires : goal.relation_at-sum_at-requires
relation_at-sum_at-requires t c =
    let h = c.requires in
    let d = c.decreases in
    let l = c.loop-d in
    omega (arith, l.invariant.low, l.invariant.few 0, l.invariant.size)

pub sum_at-term_at-requires : goal.sum_at-term_at-requires
sum_at-term_at-requires t c =
    let h = c.requires in
    let d = c.decreases in
    let l = c.loop-d in
    omega (arith, l.invariant.low, l.invariant.few 0, l.invariant.size)

pub term_at-followed-requires : goal.term_at-followed-requires
term_at-followed-requires t c =
    let h = c.requires in
    let d = c.decreases in
    let l = c.loop-d in
    omega (arith, l.invariant.low, l.invariant.few 0, l.invariant.size)

pub relation_at-returns-in_err-d : goal.relation_at-returns-in_err-d
relation_at-returns-in_err-d t c =
    let e : c.from_residual.result ≡ None = search rules in
    rw e (relating-stop c.loop-d.invariant c.in_err-d.ensures)

pub relation_at-put-requires : goal.relation_at-put-requires
relation_at-put-requires t c =
    let h = c.requires in
    let l = c.loop-d in
    let y = c.in_ok-d.ensures in
    let w : waiting l.waits ≡ 1 = rw c.in-Some.is refl in
    omega (arith, l.invariant.few 0, y.few (0 + waiting l.waits), l.invariant.size, c.sum_at.auto.ops)

pub relation_at-returns-in-Some : goal.relation_at-returns-in-Some
relation_at-returns-in-Some t c =
    let m = c.in-Some.is in
    let p = c.put.ensures in
    waiting-last (c.loop-d.invariant.second m) c.in_ok-d.ensures (last-here m p.0 p.1) (λ a s. refl)

pub relation_at-returns-in_default-compare_at : goal.relation_at-returns-in_default-compare_at
relation_at-returns-in_default-compare_at t c =
    let z = c.in_default.is in
    waiting-end (c.loop-d.invariant.first z) c.in_ok-d.ensures (none-here z) sum_joints give read-related (joint-absent _ c.in_default-compare_at.ensures)

pub relation_at-loop-d-smaller : goal.relation_at-loop-d-smaller
relation_at-loop-d-smaller t c =
    let y = c.in_ok-d.ensures in
    let o = stood-over ((joint-by c.in-Some-compare_at.ensures).next 0) in
    omega (arith, y.low, o.low)

pub relation_at-loop-d-preserved : goal.relation_at-loop-d-preserved
relation_at-loop-d-preserved t c =
    let z = c.in_default.is in
    let j = joint-by c.in-Some-compare_at.ensures in
    relating-second (waiting-on (c.loop-d.invariant.first z) c.in_ok-d.ensures (none-here z) sum_joints give read-related j.operator j.number (j.next _) c.sum_at.auto.ops)

pub sum_at-loop-d-init : goal.sum_at-loop-d-init
sum_at-loop-d-init t c = lead-waiting c.lead_at-at.ensures

pub sum_at-returns-in_err-d : goal.sum_at-returns-in_err-d
sum_at-returns-in_err-d t c =
    let e : c.from_residual.result ≡ None = search rules in
    rw e (waiting-stop c.loop-d.invariant c.in_err-d.ensures)

pub sum_at-settle-requires : goal.sum_at-settle-requires
sum_at-settle-requires t c =
    let h = c.requires in
    let l = c.loop-d in
    let y = c.in_ok-d.ensures in
    omega (arith, l.invariant.few 0, y.few (0 + waiting l.waits), l.invariant.size, c.term_at.auto.ops)

pub sum_at-returns-in_default : goal.sum_at-returns-in_default
sum_at-returns-in_default t c =
    let l = c.loop-d in
    let w = c.settle.ensures in
    waiting-end l.invariant c.in_ok-d.ensures (settles-here l.waits w.0 w.1) term_joints (λ a. read (terms a)) read-terms (joint-absent _ c.in_default.ensures)

pub sum_at-loop-d-smaller : goal.sum_at-loop-d-smaller
sum_at-loop-d-smaller t c =
    let y = c.in_ok-d.ensures in
    let o = stood-over ((joint-by c.in-Some.ensures).next 0) in
    omega (arith, y.low, o.low)

pub sum_at-loop-d-preserved : goal.sum_at-loop-d-preserved
sum_at-loop-d-preserved t c =
    let l = c.loop-d in
    let w = c.settle.ensures in
    let j = joint-by c.in-Some.ensures in
    let z = settles-here l.waits w.0 w.1 in
    waiting-on l.invariant c.in_ok-d.ensures z term_joints (λ a. read (terms a)) read-terms j.operator j.number (j.next _) (settles-size z ∙ c.term_at.auto.ops)

pub term_at-loop-d-init : goal.term_at-loop-d-init
term_at-loop-d-init t c = waiting-first factor read-term _ _

pub term_at-returns-in_err-d : goal.term_at-returns-in_err-d
term_at-returns-in_err-d t c =
    let e : c.from_residual.result ≡ None = search rules in
    let y = c.in_err-d.ensures in
    rw e (waiting_none c.loop-d.invariant y.reads y.settles)

pub term_at-returns-in_default : goal.term_at-returns-in_default
term_at-returns-in_default t c =
    let y = c.in_ok-d.ensures in
    waiting-end c.loop-d.invariant y.reads y.settles factor_joints (λ a. read (factors a)) read-factors (joint-absent _ c.in_default.ensures)

pub term_at-loop-d-smaller : goal.term_at-loop-d-smaller
term_at-loop-d-smaller t c =
    let y = c.in_ok-d.ensures in
    let o = stood-over ((joint-by c.in-Some.ensures).next 0) in
    omega (arith, y.reads.low, o.low, settles-ahead y.settles c.args.text.now)

pub term_at-loop-d-preserved : goal.term_at-loop-d-preserved
term_at-loop-d-preserved t c =
    let y = c.in_ok-d.ensures in
    let j = joint-by c.in-Some.ensures in
    waiting-on c.loop-d.invariant y.reads y.settles factor_joints (λ a. read (factors a)) read-factors j.operator j.number (j.next _) c.followed.auto.ops
