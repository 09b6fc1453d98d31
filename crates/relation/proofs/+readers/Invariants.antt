-- The cycle of readers. What is left of the text falls with each sign, and the rank with each call at one place. Assumes nothing.
use Rattle.std.proofs.Common.{◌+◌, ◌-◌, ◌*◌, suc, length}
use Rattle.nibl.specs.found.Read.{read, factor, term, sum, factors, terms}
use Rattle.relation.specs.Makes.{standing}
use Rattle.relation.proofs.Ways.{Waiting, Relating}
use Rattle.relation.proofs.+readers.Given as goal

abbrev pub decreases-closed : goal.decreases-closed
decreases-closed l = 8 * suc (length l.text.now - l.at) + 6

abbrev pub decreases-factor_at : goal.decreases-factor_at
decreases-factor_at l = 8 * suc (length l.text.now - l.from) + 1

abbrev pub decreases-factor_rest : goal.decreases-factor_rest
decreases-factor_rest l = 8 * suc (length l.text.now - l.at)

abbrev pub decreases-followed : goal.decreases-followed
decreases-followed l = 8 * suc (length l.text.now - l.from) + 2

abbrev pub decreases-modulo_at : goal.decreases-modulo_at
decreases-modulo_at l = 8 * suc (length l.text.now - l.at) + 7

abbrev pub decreases-relation_at : goal.decreases-relation_at
decreases-relation_at l = 8 * suc (length l.text.now - l.from) + 5

abbrev pub decreases-sum_at : goal.decreases-sum_at
decreases-sum_at l = 8 * suc (length l.text.now - l.from) + 4

abbrev pub decreases-term_at : goal.decreases-term_at
decreases-term_at l = 8 * suc (length l.text.now - l.from) + 3

abbrev pub invariant-relation_at-loop-d : goal.invariant-relation_at-loop-d
invariant-relation_at-loop-d l = Relating l.text l.initial.ops (standing l.from l.initial.n) l.ops (standing l.at l.n) l.waits

abbrev pub decreases-relation_at-loop-d : goal.decreases-relation_at-loop-d
decreases-relation_at-loop-d l = length l.text - l.at

abbrev pub invariant-sum_at-loop-d : goal.invariant-sum_at-loop-d
invariant-sum_at-loop-d l = Waiting (read sum) term (λ a. read (terms a)) l.text l.initial.ops (standing l.from l.initial.n) l.ops (standing l.at l.n) l.waits

abbrev pub decreases-sum_at-loop-d : goal.decreases-sum_at-loop-d
decreases-sum_at-loop-d l = length l.text - l.at

abbrev pub invariant-term_at-loop-d : goal.invariant-term_at-loop-d
invariant-term_at-loop-d l = Waiting (read term) factor (λ a. read (factors a)) l.text l.initial.ops (standing l.from l.initial.n) l.ops (standing l.at l.n) l.waits

abbrev pub decreases-term_at-loop-d : goal.decreases-term_at-loop-d
decreases-term_at-loop-d l = length l.text - l.at
