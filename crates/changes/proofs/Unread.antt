-- A text that is not blank and does not begin with a word has no reading, by any rule of words. Assumes nothing.
use Prim.Native.Nat.{ℕ}
use Prim.Native.String.{String}
use mathlib.Core.Path.{◌≡◌, sym, ◌∙◌}
use mathlib.Core.Bool.{false, false≢true}
use mathlib.Core.List.{List}
use Rattle.nibl.specs.Bytes.{is_space, all}
use Rattle.nibl.specs.Words.{Token}
use Rattle.nibl.specs.Tree.{Stmt, Typed}
use Rattle.nibl.specs.Grammar.{May, no_word, a_word, Either, whole, parted, short_print, long_print}
use Rattle.nibl.specs.Grammar.{Statement, a_let_var, a_let_stat, a_let_byte, a_let_text, a_let_copy, a_goto, a_gosub, a_return, a_print, an_if, a_do, an_until, a_for, a_next, an_input, an_input_text, a_remark, an_end}
use Rattle.nibl.specs.Grammar.{Line, a_blank, a_delete, a_store, a_new, a_clear, a_run, a_list, a_list_from, an_immediate}
use Rattle.nibl.proofs.Words.{all_true}

module _ {W : List ℕ → Token → List ℕ → Type 0} {s : List ℕ} (no : (w : Token) (t : List ℕ) → W s w t → ⊥) where
  no-let : {w : Token} {t u : List ℕ} → May W "LET" s t → W t w u → ⊥
  no-let no_word v = no _ _ v
  no-let (a_word k) v = no _ _ k

  no-either : {one first second : String} {t : List ℕ} → Either W one first second s t → ⊥
  no-either (whole k) = no _ _ k
  no-either (parted k j) = no _ _ k

  no-statement : {q : Stmt} {t : List ℕ} → Statement W s q t → ⊥
  no-statement (a_let_var m v k r) = no-let m v
  no-statement (a_let_stat m k j r) = no-let m k
  no-statement (a_let_byte m k f j r) = no-let m k
  no-statement (a_let_text m k f j b) = no-let m k
  no-statement (a_let_copy m k f j i g) = no-let m k
  no-statement (a_goto e r) = no-either e
  no-statement (a_gosub e r) = no-either e
  no-statement (a_return k) = no _ _ k
  no-statement (a_print (short_print k) is e) = no _ _ k
  no-statement (a_print (long_print k) is e) = no _ _ k
  no-statement (an_if k r m q) = no _ _ k
  no-statement (a_do k) = no _ _ k
  no-statement (an_until k r) = no _ _ k
  no-statement (a_for k v j r i q e) = no _ _ k
  no-statement (a_next k v) = no _ _ k
  no-statement (an_input k vs) = no _ _ k
  no-statement (an_input_text k j f) = no _ _ k
  no-statement (a_remark k a) = no _ _ k
  no-statement (an_end k) = no _ _ k

  module _ {C : List ℕ → Token → List ℕ → Type 0} (nor : (w : Token) (t : List ℕ) → C s w t → ⊥) (unblank : all is_space s ≡ false) where
    pub unread : (y : Typed) → Line W C s y → ⊥
    unread y (a_blank a) = false≢true (sym unblank ∙ all_true a)
    unread y (a_delete n a) = no _ _ n
    unread y (a_store n ms) = no _ _ n
    unread y (a_new k a) = nor _ _ k
    unread y (a_clear k a) = nor _ _ k
    unread y (a_run k a) = nor _ _ k
    unread y (a_list k a) = nor _ _ k
    unread y (a_list_from k n a) = nor _ _ k
    unread y (an_immediate q a) = no-statement q
