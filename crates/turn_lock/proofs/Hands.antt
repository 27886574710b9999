-- A step that changes the hands alone keeps the rule, where they have together what they had.
use Rattle.std.proofs.Common.{◌≡◌, ℕ, List, sym, ◌∙◌, arith, sum_by}
use mathlib.Core.Option.{some}
use lib.ListN.{get_elem?}
use Rattle.atomic_table.specs.Table.{State}
use Rattle.turn_lock.specs.declared.hand.Hand.{Hand}
use Rattle.turn_lock.specs.History.{Made}
use Rattle.turn_lock.specs.Turns.{tickets, numbers, often, in_flight, pass_total, out_with, Fits, Turns}

module _ {T : Type 0} where
  pub record SameSums (old new : List (Hand T)) : Type 0 where
    pub out : sum_by (λ (v : Hand T). out_with v.stage) new ≡ sum_by (λ (v : Hand T). out_with v.stage) old
    pub busy : in_flight new ≡ in_flight old
    pub ticket : (n : ℕ) → often tickets n new ≡ often tickets n old
    pub passes : pass_total new ≡ pass_total old
    pub number : (x : ℕ) → often numbers x new ≡ often numbers x old

module _ {T G : Type 0} (history : T → List Made) (ground_at : T → G) (start : T) (count : ℕ) where
  pub other_hands : (s : State T (Hand T)) (r : Turns history ground_at start count s) (new : List (Hand T)) → SameSums s.views new
      → ((id : ℕ) (v : Hand T) → get_elem? new id ≡ some v → Fits history ground_at start r.served r.log v) → Turns history ground_at start count (record { words = s.words; homes = s.homes; views = new })
  other_hands s r new same fits = record {
    served = r.served;
    flight = r.flight;
    log = r.log;
    home = r.home;
    few = r.few;
    words = r.words;
    slot = r.slot;
    value = r.value;
    gone = same.out ∙ r.gone;
    busy = same.busy ∙ r.busy;
    given = λ n low high. same.ticket n ∙ r.given n low high;
    others = λ n away. same.ticket n ∙ r.others n away;
    passes = same.passes ∙ r.passes;
    once = λ x. (let p = same.number x in let q = r.once x in omega arith);
    strangers = λ x away. r.strangers x (sym (same.number x) ∙ away);
    hands = fits;
  }
