-- One call of `change`, from the ticket on.
use Rattle.std.proofs.Common.{◌≡◌, ℕ, List, [], ◌++◌, get_or, sym, refl, ap, ◌∙◌, subst, IfSome, Some, Result, Ok, Err}
use Rattle.std.proofs.Common as std
use Rattle.mine_model.specs.declared.memory.NoMemory.{NoMemory}
use Rattle.turn_lock.specs.declared.hand.Hand.{Hand}
use Rattle.turn_lock.specs.declared.hand.Stage.TheVariants.{Waiting, Turn}
use Rattle.turn_lock.specs.History.{Made, entries_made}
use Rattle.turn_lock.specs.Rests.{Rests}
use Rattle.turn_lock.specs.Plays.{Seated, at_stage, ticket_of, TookValue, Extends, HasTurn, AllBy, changes}

-- what a call changes is its own
own_changes : (r : Result (Unit {0}) NoMemory) (n : ℕ) (e : List ℕ) → AllBy n (changes r (n, e))
own_changes (Ok x) n e = (refl, tt)
own_changes (Err x) n e = tt

module _ {T G : Type 0} (history : T → List Made) (ground_at : T → G) where
  ground_known : (y x : T) (known : std.Option T) → known ≡ Some x → IfSome known (λ z. ground_at y ≡ ground_at z) → ground_at y ≡ ground_at x
  ground_known y x known is same = subst (λ o. IfSome o (λ z. ground_at y ≡ ground_at z)) is same

  -- what a call knows when it has made its change
  pub turn_made : (old drawn taken after : Seated T) (n t : ℕ) (e : List ℕ) (r : Result (Unit {0}) NoMemory) (start : T) → Rests old n → old.0.start ≡ Some start
      → drawn ≡ (at_stage old.0 (Waiting t), old.1) → TookValue history ground_at drawn taken → after.0 ≡ taken.0 → Extends history ground_at taken.1 after.1 (changes r (n, e)) → HasTurn history ground_at after
  turn_made old drawn taken after n t e r start rests known drew took stays extends =
      let y : T = took.0 in
      let same : extends.before ≡ y = ap (λ (l : List (ℕ × T)). (get_or l 0 (0, y)).1) (sym extends.was ∙ ap (λ (m : Seated T). m.1) took.1) in
      let hand_is : after.0 ≡ at_stage drawn.0 (Turn (ticket_of drawn.0.stage) (history y)) = stays ∙ ap (λ (m : Seated T). m.0) took.1 in
      let known' : drawn.0.start ≡ Some start = ap (λ (m : Seated T). m.0.start) drew ∙ known in
      record {
        served = ticket_of drawn.0.stage;
        log = history y;
        value = extends.after;
        start = start;
        part = (n, entries_made old.0.parts);
        added = changes r (n, e);
        stage = ap (λ (h : Hand T). h.stage) hand_is;
        out = extends.is;
        knows = ap (λ (h : Hand T). h.start) hand_is ∙ known';
        one = ap (λ (h : Hand T). h.parts) hand_is ∙ (ap (λ (m : Seated T). m.0.parts) drew ∙ rests.2);
        longer = extends.longer ∙ ap (λ v. history v ++ changes r (n, e)) same;
        own = own_changes r n e;
        stays = extends.stays ∙ (ap ground_at same ∙ ground_known y start drawn.0.start known' took.2);
      }
