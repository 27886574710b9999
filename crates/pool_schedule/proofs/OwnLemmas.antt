-- The nodes of the machine stay own ones, and its rows those of its labels.
use Rattle.std.proofs.Common.{◌≡◌, ℕ, Option, Some, None, List, [], ◌∷◌, ◌++◌, set, slice_get, refl, sym, ap, ◌∙◌, subst}
use Rattle.std.specs.Prelude.{All, IfSome}
use Rattle.std.specs.List.{filter_map, cons_option}
use Rattle.std.specs.Option.{option_to_list}
use Rattle.std.proofs.lemmas.Option.{slice_get_within, get_or_from_slice_get}
use Rattle.std.proofs.lemmas.List.Elements.{All-set, All-get_or, All-append, All-push, All-cons, All-nil, All-head, All-tail, All-same, filter_map-append}
use Rattle.mine_model.specs.declared.row.Row.{Row}
use Rattle.pool_schedule.specs.Worker.{PutsNode, TakesNode, GrowsNode}
use Rattle.pool_schedule.specs.Machine.{AllOwn, IsOwned, PendingRows, HasRows, PostsNode, StealsNode}
use Rattle.pool_schedule.specs.declared.machine.Machine.{Machine}
use Rattle.pool_schedule.specs.declared.worker.Pending.{Pending}
use Rattle.pool_schedule.specs.declared.worker.Worker.{Worker}

-- what holds of each element holds of the one that is read
all-at : {X : Type 0} (P : X → Type 0) (xs : List X) (i : ℕ) (x : X) → slice_get xs i ≡ Some x → All P xs → P x
all-at P xs i x at all = subst P (get_or_from_slice_get xs i x x at) (All-get_or P xs i x (slice_get_within xs i x at) all)

front : {X : Type 0} (P : X → Type 0) (xs rest : List X) (x : X) → xs ≡ rest ++ x ∷ [] → All P xs → All P rest × P x
front P xs [] x is all = (All-nil P, All-head P x [] (subst (All P) is all))
front P xs (y ∷ rest) x is all =
    let whole : All P (y ∷ (rest ++ x ∷ [])) = subst (All P) is all in
    let later : All P rest × P x = front P (rest ++ x ∷ []) rest x refl (All-tail P y (rest ++ x ∷ []) whole) in
    (All-cons P y rest (All-head P y (rest ++ x ∷ []) whole) later.0, later.1)

first : {X : Type 0} (P : X → Type 0) (xs rest : List X) (x : X) → xs ≡ x ∷ rest → All P xs → P x × All P rest
first P xs rest x is all = let whole : All P (x ∷ rest) = subst (All P) is all in (All-head P x rest whole, All-tail P x rest whole)

module _ {N : Type 0} (IsOwn : N → Type 0) where
  -- all nodes of the worker are own ones
  abbrev pub Owns : Worker N → Type 0
  Owns worker = All IsOwn worker.deque.items × All IsOwn worker.stack.items

  pub owns-at : (workers : List (Worker N)) (w : ℕ) (x : Worker N) → slice_get workers w ≡ Some x → AllOwn IsOwn workers → All IsOwn x.deque.items × All IsOwn x.stack.items
  owns-at workers w x at all = all-at Owns workers w x at all

  changes-own : (workers after : List (Worker N)) (w : ℕ) (y : Worker N) → after ≡ set workers w y → Owns y → AllOwn IsOwn workers → AllOwn IsOwn after
  changes-own workers after w y is own all = All-same Owns after (set workers w y) is (All-set Owns workers w y own all)

  pub posts-own : (w : ℕ) (before after : Machine N) → PostsNode w before after → IsOwned IsOwn before → IsOwned IsOwn after
  posts-own w before after s own =
      changes-own before.workers.items after.workers.items w (record s.worker { pending = None }) s.workers (owns-at before.workers.items w s.worker s.at own) own

  pub puts-own : (workers : List (Worker N)) (w : ℕ) (x y : Worker N) → slice_get workers w ≡ Some x → PutsNode x y → AllOwn IsOwn workers → AllOwn IsOwn (set workers w y)
  puts-own workers w x y at p own =
      let old : Owns x = owns-at workers w x at own in
      let split : IsOwn p.node × All IsOwn y.stack.items = first IsOwn x.stack.items y.stack.items p.node p.stack old.1 in
      All-set Owns workers w y (All-same IsOwn y.deque.items (x.deque.items ++ p.node ∷ []) p.deque (All-push IsOwn x.deque.items p.node old.0 split.0), split.1) own

  pub takes-own : (workers : List (Worker N)) (w : ℕ) (x y : Worker N) → slice_get workers w ≡ Some x → TakesNode x y → AllOwn IsOwn workers → AllOwn IsOwn (set workers w y)
  takes-own workers w x y at p own =
      let old : Owns x = owns-at workers w x at own in
      let split : All IsOwn y.deque.items × IsOwn p.node = front IsOwn x.deque.items y.deque.items p.node p.deque old.0 in
      All-set Owns workers w y (split.0, All-same IsOwn y.stack.items (x.stack.items ++ p.node ∷ []) p.stack (All-push IsOwn x.stack.items p.node old.1 split.1)) own

  pub grows-own : (label : N → List ℕ) (kids : List ℕ → List (List ℕ)) (row : List ℕ → Option Row) (workers : List (Worker N)) (w : ℕ) (x y : Worker N) → slice_get workers w ≡ Some x
      → GrowsNode label kids row IsOwn x y → AllOwn IsOwn workers → AllOwn IsOwn (set workers w y)
  grows-own label kids row workers w x y at p own =
      let old : Owns x = owns-at workers w x at own in
      let split : All IsOwn p.rest × IsOwn p.node = front IsOwn x.stack.items p.rest p.node p.stack old.1 in
      All-set Owns workers w y (All-same IsOwn y.deque.items x.deque.items p.deque old.0, All-same IsOwn y.stack.items (p.rest ++ p.new) p.stack_after (All-append IsOwn p.rest p.new split.0 p.own)) own

  pub steals-own : (w from : ℕ) (before after : Machine N) → StealsNode w from before after → IsOwned IsOwn before → IsOwned IsOwn after
  steals-own w from before after s own =
      let victim : Owns s.victim = owns-at before.workers.items from s.victim s.at_victim own in
      let worker : Owns s.worker = owns-at before.workers.items w s.worker s.at own in
      let split : IsOwn s.node × All IsOwn s.robbed.deque.items = first IsOwn s.victim.deque.items s.robbed.deque.items s.node s.lost victim.0 in
      let robbed : AllOwn IsOwn (set before.workers.items from s.robbed) =
      All-set Owns before.workers.items from s.robbed (split.1, All-same IsOwn s.robbed.stack.items s.victim.stack.items s.kept.0 victim.1) own in
      changes-own (set before.workers.items from s.robbed) after.workers.items w s.thief s.workers (
        All-same IsOwn s.thief.deque.items s.worker.deque.items s.same.0 worker.0,
        All-same IsOwn s.thief.stack.items (s.worker.stack.items ++ s.node ∷ []) s.got (All-push IsOwn s.worker.stack.items s.node worker.1 split.0),
      ) robbed

abbrev FitsRow : (List ℕ → Option Row) → Option Pending → Type 0
FitsRow row pending = IfSome pending (λ (p : Pending). p.row ≡ row p.label)

one-row : (o : Option Row) → cons_option o [] ≡ option_to_list o
one-row None = refl
one-row (Some r) = refl

module _ {N : Type 0} (row : List ℕ → Option Row) where
  -- the pending label has its row
  abbrev pub RowFits : Worker N → Type 0
  RowFits worker = IfSome worker.pending (λ (p : Pending). p.row ≡ row p.label)

  pub posts-rows : (w : ℕ) (before after : Machine N) → PostsNode w before after → HasRows row before → HasRows row after
  posts-rows w before after s has =
      let fits : FitsRow row (Some s.pending) = subst (FitsRow row) s.is (all-at RowFits before.workers.items w s.worker s.at has.pending) in
      let is : s.pending.row ≡ row s.pending.label = fits in
      record {
        posted = s.rows ∙ ap (λ l. l ++ option_to_list s.pending.row) has.posted ∙ ap (λ o. filter_map row before.posted.labels ++ option_to_list o) is
            ∙ ap (λ l. filter_map row before.posted.labels ++ l) (sym (one-row (row s.pending.label)))
            ∙ sym (filter_map-append row before.posted.labels (s.pending.label ∷ []))
            ∙ ap (filter_map row) (sym s.labels);
        pending = All-same RowFits after.workers.items (set before.workers.items w (record s.worker { pending = None })) s.workers
            (All-set RowFits before.workers.items w (record s.worker { pending = None }) tt has.pending);
      }

  pub fits-at : (workers : List (Worker N)) (w : ℕ) (x : Worker N) (p : Option Pending) → slice_get workers w ≡ Some x → p ≡ x.pending → PendingRows row workers → FitsRow row p
  fits-at workers w x p at same has = subst (FitsRow row) (sym same) (all-at RowFits workers w x at has)

  pub steals-rows : (w from : ℕ) (before after : Machine N) → StealsNode w from before after → HasRows row before → HasRows row after
  steals-rows w from before after s has = record {
    posted = ap (λ posted. posted.rows.items) s.posted ∙ has.posted ∙ ap (λ posted. filter_map row posted.labels) (sym s.posted);
    pending = All-same RowFits after.workers.items (set (set before.workers.items from s.robbed) w s.thief) s.workers
        (All-set RowFits (set before.workers.items from s.robbed) w s.thief (fits-at before.workers.items w s.worker s.thief.pending s.at s.same.1 has.pending)
        (All-set RowFits before.workers.items from s.robbed (fits-at before.workers.items from s.victim s.robbed.pending s.at_victim s.kept.1 has.pending) has.pending));
  }
