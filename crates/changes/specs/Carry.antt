-- What item 5's sentences name: a rule set that may be carried, by the grammar, and what a save and a load leave, refusal by refusal in their
-- order. Nothing here looks for a reading, or reads a form.
use Rattle.std.specs.Prelude.{ℕ, suc, ◌+◌, ◌≤◌, ◌<◌, ◌≡◌, List, [], ◌∷◌, length, get_or, drop}
use Rattle.nibl.specs.Typing.{limit}
use Rattle.nibl.specs.Page.{Stored, records_of, program_bytes, used}
use Rattle.nibl.specs.Saved.{RuleSet, form_number, saved_form}
use Rattle.nibl.specs.Lent.{Lent, Left, unchanged}
use Rattle.nibl.specs.Carry.{rule_set_of, saved, loaded}
use Rattle.page.specs.Standing.{Bytes}
use Rattle.demands.specs.Lent.{HasTable}
use Rattle.demands.specs.Good.{GoodText, GoodPage, Fits, TrueTable}

-- records that a good page may hold, of numbers that rise from low on
pub data GoodRecords (lim : ℕ) : ℕ → List Stored → Type 0 where
  no_record : {low : ℕ} → GoodRecords lim low []
  further : {low : ℕ} {r : Stored} {rs : List Stored} → low ≤ r.line → r.line ≤ 32767 → GoodText lim r.line r.text → GoodRecords lim (suc r.line) rs
      → GoodRecords lim low (r ∷ rs)

-- 26 values of 16 bits, the records of a good page, and a memory whose length two bytes can say
pub record Carryable (lim : ℕ) (c : RuleSet) : Type 0 where
  pub vars : length c.vars ≡ 26
  pub values : (i : ℕ) → get_or c.vars i 0 < 65536
  pub records : GoodRecords lim 0 c.records
  pub memory : Bytes c.memory
  pub short : length c.memory < 65536

-- what the types of a record, a page and a memory say of them: 26 variables of 16 bits, and bytes
pub record OfTypes (x : Lent) : Type 0 where
  pub vars : length x.session.vars ≡ 26
  pub values : (i : ℕ) → get_or x.session.vars i 0 < 65536
  pub page : Bytes x.page
  pub memory : Bytes x.memory

-- what a save looks at, in range
pub record SaveRange (x : Lent) : Type 0 where
  pub some : 2 ≤ length x.page
  pub page : length x.page ≤ 4096
  pub memory : length x.memory ≤ 4096
  pub output : length x.output ≤ 65535
  pub outpos : x.call.outpos ≤ length x.output

-- "for saving: 1, 18, 19, 17"
pub data SavesAs (x : Lent) : Left → Type 0 where
  save_out_of_range : (SaveRange x → ⊥) → SavesAs x (unchanged x 1)
  bad_page : SaveRange x → (GoodPage limit x.page → ⊥) → SavesAs x (unchanged x 18)
  bad_record : SaveRange x → GoodPage limit x.page → (Fits x.page x.session → ⊥) → SavesAs x (unchanged x 19)
  no_room : SaveRange x → GoodPage limit x.page → Fits x.page x.session → length x.output < x.call.outpos + length (saved_form (rule_set_of x))
      → SavesAs x (unchanged x 17)
  writes : SaveRange x → GoodPage limit x.page → Fits x.page x.session → x.call.outpos + length (saved_form (rule_set_of x)) ≤ length x.output
      → SavesAs x (saved x (saved_form (rule_set_of x)))

-- what a load looks at besides its form, in range
pub record LoadRange (x : Lent) : Type 0 where
  pub some : 2 ≤ length x.page
  pub page : length x.page ≤ 4096
  pub memory : length x.memory ≤ 4096
  pub table : HasTable x → 1025 ≤ length x.table

-- its input is the form of c, that may be carried
pub record Brings (x : Lent) (c : RuleSet) : Type 0 where
  pub range : LoadRange x
  pub carryable : Carryable limit c
  pub form : x.input ≡ saved_form c

-- "for loading: 1, then 22 another form number or none, 23 counts, records or length wrong, 24 memory of another length, 2"
pub data LoadsAs (x : Lent) : Left → Type 0 where
  load_out_of_range : (LoadRange x → ⊥) → LoadsAs x (unchanged x 1)
  other_form : LoadRange x → ((s : List ℕ) → x.input ≡ form_number ∷ s → ⊥) → LoadsAs x (unchanged x 22)
  bad_form : LoadRange x → (s : List ℕ) → x.input ≡ form_number ∷ s → ((c : RuleSet) → Brings x c → ⊥) → LoadsAs x (unchanged x 23)
  other_memory : (c : RuleSet) → Brings x c → (length c.memory ≡ length x.memory → ⊥) → LoadsAs x (unchanged x 24)
  page_full : (c : RuleSet) → Brings x c → length c.memory ≡ length x.memory → length x.page < length (program_bytes c.records) → LoadsAs x (unchanged x 2)
  takes : (c : RuleSet) → Brings x c → length c.memory ≡ length x.memory → length (program_bytes c.records) ≤ length x.page → LoadsAs x (loaded x c)

-- What a load leaves of c
pub record Loads (x : Lent) (c : RuleSet) (u : Left) : Type 0 where
  -- "the same program, variables and memory"
  pub program : records_of u.outcome.page ≡ c.records
  pub vars : u.outcome.session.vars ≡ c.vars
  pub memory : u.outcome.memory ≡ c.memory
  -- "Bytes after the loaded program's end mark hold what they held", and the page its length
  pub long : length u.outcome.page ≡ length x.page
  pub after : drop (used u.outcome.page) u.outcome.page ≡ drop (used u.outcome.page) x.page
  -- the output is not looked at
  pub output : u.outcome.output ≡ x.output
  -- and what is left is sound: the page is good, the record fits it, and a lent table is true of it
  pub good : GoodPage limit u.outcome.page
  pub fits : Fits u.outcome.page u.outcome.session
  pub table : HasTable x → TrueTable u.outcome.page u.table
  -- and has its length
  pub entries : HasTable x → length u.table ≡ length x.table
