-- A record as LIST writes it, and the listing one record at a time.
-- Assumes nothing.
use Prim.Native.Nat.{ℕ, zero, suc, ◌+◌, ◌-◌, ◌≤◌}
use Rattle.std.specs.Prelude.{Option, Some, None, Err}
use mathlib.Core.Path.{◌≡◌, refl, sym, ap, ◌∙◌}
use mathlib.Core.List.{List, [], ◌∷◌, ◌++◌}
use native.Mathlib.Numerals.{add-one}
use native.Mathlib.Omega.{arith}
use lib.ListN.{length, take, drop, set, length-append}
use lib.Seq.{sets, length-sets, drop-drop}
use lib.Dec.{leb}
use borrow.Author.Tests.{le-leb}
use Rattle.nibl.specs.Page.{Stored, text_at, length_at}
use Rattle.nibl.specs.Values.{is, no, digits}
use Rattle.nibl.specs.Meaning.{World, with_output, put}
use Rattle.nibl.specs.Calls.{listed, list_from}
use Rattle.value.specs.Writes.{Writes, item_fits}
use Rattle.value.proofs.Writing.{sets-append, writes-whole}
use Rattle.page.specs.Listing.{shown, listing, Here, shown_in}
use Rattle.page.proofs.Walk.{by_cases, Met}

-- a record's text is a part of its page
take_own : (m : ℕ) (l : List ℕ) → take (length (take m l)) l ≡ take m l
take_own zero l = refl
take_own (suc m) [] = refl
take_own (suc m) (x ∷ l) = ap (λ (r : List ℕ). x ∷ r) (take_own m l)

pub text-part : (p : List ℕ) (at n : ℕ) → Met p at n → take (at + n - 1 - (at + 3)) (drop (at + 3) p) ≡ text_at (drop at p)
text-part p at n m =
    let q : List ℕ = drop at p in
    let e : at + n - 1 - (at + 3) ≡ length (text_at q) = omega (arith, m.long) in
    (λ i. take (e i) (sym (drop-drop 3 at p) i)) ∙ take_own (length_at q - 4) (drop 3 q)

-- digits, text, CR and LF, written one after another
pub listed-length : (r : Stored) → length (listed r) ≡ length (digits r.line) + length r.text + 2
listed-length r = omega (arith, length-append (digits r.line) (r.text ++ (13 ∷ 10 ∷ [])), length-append r.text (13 ∷ 10 ∷ []))

module _ {before after item : List ℕ} {at : ℕ} {a : (Option ℕ)} (w : Writes before at item a after) (h : at + length item ≤ length before) where
  written : after ≡ sets before at item
  written = w.output ∙ rw (le-leb (at + length item) (length before) h)

pub line-written : (r : Stored) {out one two : List ℕ} {pos : ℕ} {a b : (Option ℕ)} (e : ℕ)
    → Writes out pos (digits r.line) a one → Writes one (pos + length (digits r.line)) r.text b two
    → e ≡ pos + length (digits r.line) + length r.text → e + 2 ≤ length out
    → Writes out pos (listed r) (Some (e + 2)) (set (set two e 13) (e + 1) 10)
line-written r {out} {one} {two} {pos} {a} {b} e u v f h =
    let ds : List ℕ = digits r.line in
    let t : List ℕ = r.text in
    let l = listed-length r in
    let d : one ≡ sets out pos ds = written u (omega arith) in
    let k : length one ≡ length out = ap length d ∙ length-sets out pos ds in
    let g : two ≡ sets (sets out pos ds) (pos + length ds) t = written v (omega arith) ∙ ap (λ (o : List ℕ). sets o (pos + length ds) t) d in
    let to : pos + length (listed r) ≡ e + 2 = omega arith in
    let all : sets out pos (listed r) ≡ set (set two e 13) (e + 1) 10 =
    sets-append ds (t ++ (13 ∷ 10 ∷ [])) out pos
    ∙ sets-append t (13 ∷ 10 ∷ []) (sets out pos ds) (pos + length ds)
    ∙ (λ i. sets (sym g i) (sym f i) (13 ∷ 10 ∷ []))
    ∙ ap (λ (n : ℕ). set (set two e 13) n 10) (sym (add-one e)) in
    rw (← to, ← all) (writes-whole out (listed r) pos (omega arith))

-- the listing, one record at a time
module _ (n : ℕ) (r : Stored) (rs : List Stored) {out after : List ℕ} {at : ℕ} where
  pub list_on : (next : ℕ) → Here n r out at (Some next) after → listing n (r ∷ rs) out at ≡ listing n rs after next
  unfolding listing
  list_on next h =
      by_cases (leb n r.line)
      (λ e. by_cases (item_fits out at (listed r))
      (λ f.
      let w = h.from e in
      let a : is next ≡ is (at + length (listed r)) = w.answer ∙ rw f in
      let b : at + length (listed r) ≡ next = cc in
      let o : after ≡ sets out at (listed r) = w.output ∙ rw f in
      rw (e, f, listing) (λ i. listing n rs (sym o i) (b i)))
      (λ f. let a : is next ≡ no 17 = (h.from e).answer ∙ rw f in let z : ◌≡◌ {A = ℕ} 0 1 = cc in absurd (omega arith)))
      (λ e.
      let w = h.below e in
      let b : at ≡ next = cc in
      rw (e, listing) (λ i. listing n rs (sym w.1 i) (b i)))

  pub list_full : Here n r out at None after → listing n (r ∷ rs) out at ≡ shown after (Err at)
  unfolding listing
  list_full h =
      by_cases (leb n r.line)
      (λ e. by_cases (item_fits out at (listed r))
      (λ f. let a : no 17 ≡ is (at + length (listed r)) = (h.from e).answer ∙ rw f in let z : ◌≡◌ {A = ℕ} 0 1 = cc in absurd (omega arith))
      (λ f. let o : after ≡ out = (h.from e).output ∙ rw f in rw (e, f, listing) (ap (λ (l : List ℕ). shown l (Err at)) (sym o))))
      (λ e. let w = (h.below e).0 in let z : ◌≡◌ {A = ℕ} 0 1 = cc in absurd (omega arith))

-- a listing is the definition's
pub list-is : (n : ℕ) (rs : List Stored) (w : World) → shown_in w (listing n rs w.output w.outpos) ≡ list_from n rs w
unfolding listing list_from put
list-is n [] w = refl
list-is n (r ∷ rs) w =
    by_cases (leb n r.line)
    (λ e. by_cases (item_fits w.output w.outpos (listed r))
    (λ f. rw (e, f, listing, list_from) (list-is n rs (with_output w (sets w.output w.outpos (listed r)) (w.outpos + length (listed r)))))
    (λ f. rw (e, f, listing, list_from)))
    (λ e. rw (e, listing, list_from) (list-is n rs w))
