-- A run does alike, step by step. Assumes nothing.
use Prim.Native.Nat.{ℕ, zero, suc}
use mathlib.Core.Path.{◌≡◌, refl, subst}
use mathlib.Core.List.{List, ◌∷◌}
use mathlib.Core.Logic.{inl, inr}
use Rattle.nibl.specs.Tree.{Stmt}
use Rattle.nibl.specs.Meaning.{World, Env, Done, exec}
use Rattle.nibl.specs.Runs.{Ran, ran, stepped, Standing, Fetched, fetch, env_at, after_step, step, run_from}
use Rattle.nibl.specs.Runs as runs
use Rattle.demands.specs.Leaves.{WholeLines, none_taken, line}
use Rattle.changes.specs.Alike.{Likeness, WorldsAlike, go_on, skips, goes, stops, Both, both, EnvsAlike, Alike, alike, heard, parted, StandsAlike, FetchedAlike, past, unread, here, RunsAlike, together, apart}
use Rattle.changes.proofs.AlikeStatements.{exec-alike}

pub lines_then : {lim : ℕ} {input : List ℕ} {i j k : ℕ} → WholeLines lim input i j → WholeLines lim input j k → WholeLines lim input i k
lines_then none_taken m = m
lines_then (line g h l) m = line g h (lines_then l m)

module _ (L : Likeness) (N : ℕ → Type 0) (e e' : Env) (s : EnvsAlike L N e e') (fetches : (q q' : ℕ) → L.P q q' → FetchedAlike L (fetch e.page q) (fetch e'.page q')) where
  -- the same surroundings at another place
  placed : {p p' : ℕ} → L.H p p' → EnvsAlike L N (env_at e p) (env_at e' p')
  placed h =
      record {
        sense = s.sense;
        gathers = s.gathers;
        longs = s.longs;
        replies = s.replies;
        finds = s.finds;
        tops = s.tops;
        bytes = s.bytes;
        strings = s.strings;
        stores = s.stores;
        here = h;
      }

  back : {p i : ℕ} {d d' : Done} → Alike L N (env_at e p) i d d' → Alike L N e i d d'
  back (alike b) = alike b
  back (heard g h b) = heard g h b
  back (parted n l h) = parted n l h

  longer : {i j : ℕ} {r r' : Ran} → WholeLines e.lim e.input i j → RunsAlike L N e j r r' → RunsAlike L N e i r r'
  longer l (together m a b c w) = together (lines_then l m) a b c w
  longer l (apart m n k a b) = apart (lines_then l m) n k a b

  -- one step more
  counted : {i l l' : ℕ} {r r' : Ran} → l ≡ l' → RunsAlike L N e i r r' → RunsAlike L N e i (stepped l r) (stepped l' r')
  counted h (together m a b c w) = together m a (λ j. h j ∷ b j) c w
  counted h (apart m n k a b) = apart m n k a b

  -- what follows a step
  module _ {p p' cr cr' : ℕ} (hp : L.H p p') (hc : L.P (suc cr) (suc cr')) (k k' : ℕ → World → Ran)
      (f : (i q q' : ℕ) (u u' : World) → L.P q q' → WorldsAlike L i u u' → RunsAlike L N e i (k q u) (k' q' u')) where
    followed : {i : ℕ} {d d' : Done} → Both L i d d' → RunsAlike L N e i (after_step d p cr k) (after_step d' p' cr' k')
    followed (both go_on r) = f _ _ _ _ _ (L.after _ _ hp) r
    followed (both skips r) = f _ _ _ _ _ hc r
    followed (both (goes q) r) = f _ _ _ _ _ q r
    followed (both stops r) = together none_taken refl refl (inr hp) r

    follows : {i : ℕ} {d d' : Done} → Alike L N e i d d' → RunsAlike L N e i (after_step d p cr k) (after_step d' p' cr' k')
    follows (alike b) = followed b
    follows (heard g h b) = longer (line g h none_taken) (followed b)
    follows (parted n l h) = apart none_taken n l refl h

  step-alike : {i : ℕ} {x x' : Standing} {w w' : World} (k k' : ℕ → World → Ran) → StandsAlike L x x' → WorldsAlike L i w w'
      → ((j q q' : ℕ) (u u' : World) → L.P q q' → WorldsAlike L j u u' → RunsAlike L N e j (k q u) (k' q' u')) → RunsAlike L N e i (step e x w k) (step e' x' w' k')
  step-alike {i} {x} {x'} {w} {w'} k k' h r f =
      counted h.line (follows h.place h.cr k k' f
      (subst (λ (q : Stmt). Alike L N e i (exec (env_at e x.place) x.statement w) (exec (env_at e' x'.place) q w')) h.statement
      (back (exec-alike L N _ _ (placed h.place) x.statement h.fine r))))

  pub run-alike : (k i q q' : ℕ) (w w' : World) → L.P q q' → WorldsAlike L i w w' → RunsAlike L N e i (run_from k e q w) (run_from k e' q' w')
  unfolding run_from
  run-alike zero i q q' w w' p r = by (fetches q q' p) where
    by : {x x' : Fetched} → FetchedAlike L x x'
        → RunsAlike L N e i (elim x [ runs.past ↦ ran 0 q w | runs.unread a ↦ ran 14 q w | runs.here y ↦ ran 14 q w ])
        (elim x' [ runs.past ↦ ran 0 q' w' | runs.unread a ↦ ran 14 q' w' | runs.here y ↦ ran 14 q' w' ])
    by past = together none_taken refl refl (inl p) r
    by (unread h) = together none_taken refl refl (inl p) r
    by (here h) = together none_taken refl refl (inl p) r
  run-alike (suc k) i q q' w w' p r = by (fetches q q' p) (λ j t t' u u' z v. run-alike k j t t' u u' z v) where
    by : {x x' : Fetched} → FetchedAlike L x x' → ((j t t' : ℕ) (u u' : World) → L.P t t' → WorldsAlike L j u u' → RunsAlike L N e j (run_from k e t u) (run_from k e' t' u'))
        → RunsAlike L N e i (elim x [ runs.past ↦ ran 0 q w | runs.unread a ↦ ran 5 a w | runs.here y ↦ step e y w (run_from k e) ])
        (elim x' [ runs.past ↦ ran 0 q' w' | runs.unread a ↦ ran 5 a w' | runs.here y ↦ step e' y w' (run_from k e') ])
    by past more = together none_taken refl refl (inl p) r
    by (unread h) more = together none_taken refl refl (inl h) r
    by (here h) more = step-alike (run_from k e) (run_from k e') h r more
