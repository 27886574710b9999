-- Sets that are cut to the states that still write.
use Rattle.std.proofs.Common.{◌≡◌, ℕ, zero, suc, ◌<◌, ◌≤◌, ◌↔◌, inl, inr, Some, List, [], ◌∷◌, drop, length, arith, refl, sym, subst, add-one}
use Rattle.std.specs.List.{slice_get, slice_index}
use Rattle.mine_model.proofs.ElementLemmas.{get-some}
use Rattle.state_bits.specs.Members.{Has}
use Rattle.state_bits.specs.Neighbours.{IsNeighbour}
use Rattle.std.proofs.lemmas.Option.{slice_get_within, same_Some}
use Rattle.walk_memo.specs.declared.action.Action.{Action}
use Rattle.walk_memo.specs.Moves.{MoveSets}
use Rattle.walk_memo.specs.Steps.{IsAfter, AreActions}
use Rattle.walk_memo.specs.Cuts.{AgreeOn, AreSetsAlong, IsCut, AreCuts}

-- what is left of a list from an element on
drop_at : {X : Type 0} (xs : List X) (k : ℕ) (x : X) → slice_get xs k ≡ Some x → drop k xs ≡ x ∷ drop (suc k) xs
drop_at [] k x is = absurd (cc)
drop_at (y ∷ xs) zero x is = let same : y ≡ x = same_Some y x is in rw same refl
drop_at (y ∷ xs) (suc k) x is = drop_at xs k x is

-- edges lead into a state that is written from both sets, or from none
written_from : (rows : List ℕ) (move : MoveSets) (rest : List MoveSets) (set other : ℕ) → AgreeOn rows (move ∷ rest) set other
    → (q : ℕ) → Has move.writes q → IsNeighbour rows set q ↔ IsNeighbour rows other q
written_from rows move rest set other agree q writes = (
  (λ (from, stands, has). (from, stands, (agree from (q, stands, inl writes)).0 has)),
  (λ (from, stands, has). (from, stands, (agree from (q, stands, inl writes)).1 has)),
)

-- sets that agree before a move agree behind it
agree-next : (rows : List ℕ) (move cut : MoveSets) (rest : List MoveSets) (set other next cut_next : ℕ) → IsCut rows rest move cut → AgreeOn rows (move ∷ rest) set other
    → IsAfter rows move set next → IsAfter rows cut other cut_next → AgreeOn rows rest next cut_next
agree-next rows move cut rest set other next cut_next is agree after cut_after q can = (
  (λ has.
      let ((from, stands, held), silent) = (after q).0 has in
      (cut_after q).1 ((from, stands, (agree from (q, stands, inr (silent, can))).0 held), is.enough q silent can)),
  (λ has.
      let ((from, stands, held), kept) = (cut_after q).0 has in
      let silent = is.fewer q kept in
      (after q).1 ((from, stands, (agree from (q, stands, inr (silent, can))).1 held), silent)),
)

-- actions are told by what edges lead into, what is written and the two marks
actions-from : (rows : List ℕ) (one other : MoveSets) (set others : ℕ) → other.writes ≡ one.writes → other.more ≡ one.more → other.unseen ≡ one.unseen → other.ends ≡ one.ends
    → ((q : ℕ) → Has one.writes q → IsNeighbour rows set q ↔ IsNeighbour rows others q)
    → (actions : List Action) → AreActions rows one set actions → AreActions rows other others actions
actions-from rows one other set others writes_same more_same unseen_same ends_same same actions are = record {
  rising = are.rising;
  exact = λ action. (
    (λ held.
        let (stands, writes, marked) = (are.exact action).0 held in (
          (same action.state writes).0 stands,
          (rw writes_same writes),
          record { more = rw more_same marked.more; unseen = rw unseen_same marked.unseen; ends = rw ends_same marked.ends },
        )),
    (λ (stands, writes, marked).
        let here : Has one.writes action.state = rw writes_same at writes in
        (are.exact action).1 (
          (same action.state here).1 stands,
          here,
          record { more = rw more_same at marked.more; unseen = rw unseen_same at marked.unseen; ends = rw ends_same at marked.ends },
        )),
  );
}

module _ (rows : List ℕ) (moves cuts : List MoveSets) (sets fewer : List ℕ) (long : length cuts ≡ length moves) (are : AreCuts rows moves cuts) (along : AreSetsAlong rows moves sets)
    (cut_along : AreSetsAlong rows cuts fewer) (start : AgreeOn rows moves (slice_index sets 0) (slice_index fewer 0)) where
  agree-at : (k : ℕ) → k ≤ length moves → AgreeOn rows (drop k moves) (slice_index sets k) (slice_index fewer k)
  agree-at zero within = start
  agree-at (suc k) within =
      let (move, found) = get-some moves k (omega arith) in
      let (cut, cut_found) = get-some cuts k (omega arith) in
      let here : AgreeOn rows (move ∷ drop (suc k) moves) (slice_index sets k) (slice_index fewer k) =
      subst (λ (ms : List MoveSets). AgreeOn rows ms (slice_index sets k) (slice_index fewer k)) (drop_at moves k move found) (agree-at k (omega arith)) in
      let is : IsCut rows (drop (suc k) moves) move cut = subst (λ (n : ℕ). IsCut rows (drop n moves) move cut) (add-one k) (are k move cut found cut_found) in
      let after : IsAfter rows move (slice_index sets k) (slice_index sets (suc k)) = subst (λ (n : ℕ). IsAfter rows move (slice_index sets k) (slice_index sets n)) (add-one k) (along k move found) in
      let cut_after : IsAfter rows cut (slice_index fewer k) (slice_index fewer (suc k)) =
      subst (λ (n : ℕ). IsAfter rows cut (slice_index fewer k) (slice_index fewer n)) (add-one k) (cut_along k cut cut_found) in
      agree-next rows move cut (drop (suc k) moves) (slice_index sets k) (slice_index fewer k) (slice_index sets (suc k)) (slice_index fewer (suc k)) is here after cut_after

  pub same_actions : (k : ℕ) (move cut : MoveSets) → slice_get moves k ≡ Some move → slice_get cuts k ≡ Some cut
      → (actions : List Action) → AreActions rows move (slice_index sets k) actions ↔ AreActions rows cut (slice_index fewer k) actions
  same_actions k move cut found cut_found actions =
      let inside : k < length moves = slice_get_within moves k move found in
      let here : AgreeOn rows (move ∷ drop (suc k) moves) (slice_index sets k) (slice_index fewer k) =
      subst (λ (ms : List MoveSets). AgreeOn rows ms (slice_index sets k) (slice_index fewer k)) (drop_at moves k move found) (agree-at k (omega arith)) in
      let is = are k move cut found cut_found in
      let same = written_from rows move (drop (suc k) moves) (slice_index sets k) (slice_index fewer k) here in (
        actions-from rows move cut (slice_index sets k) (slice_index fewer k) is.writes is.more is.unseen is.ends same actions,
        actions-from rows cut move (slice_index fewer k) (slice_index sets k) (sym is.writes) (sym is.more) (sym is.unseen) (sym is.ends)
            (λ q writes. let (forth, back) = same q (rw is.writes at writes) in (back, forth)) actions,
      )
