use Rattle.std.proofs.Common.{◌≡◌, ◌<◌, inl, inr, length, refl, sym, ap, ◌∙◌, arith, rules}
use Rattle.std.specs.List.{slice_get, slice_index}
use Rattle.std.proofs.lemmas.Bool.{cases_lt}
use Rattle.std.proofs.lemmas.Option.{slice_get_within, same_Some}
use Rattle.std.proofs.lemmas.List.Elements.{All-contains}
use Rattle.mine_model.proofs.ElementLemmas.{get-held}
use Rattle.walk_memo.specs.Memos.{IsJoined}
use Rattle.place_walk.specs.declared.stand.Stand.{Stand}
use Rattle.place_walk.proofs.JoinLemmas.{numbered-set, joined-within, joined-set, joined-more, joined-none}
use Rattle.place_walk.proofs.joining.join.Goals as goal
use Rattle.place_walk.proofs.joining.join.Goals.{In-Some}

pub stands-init : goal.stands-init
stands-init g c = record {
  rows = refl;
  moves = refl;
  number = c.requires.set;
  forward = omega arith;
  within = c.requires.taken;
  taken = λ k stand least most there. absurd (omega arith);
  states = λ state. joined-none c.args.group.now c.args.taken (slice_index c.args.memo.now.sets c.args.set) state;
}

pub join-requires : goal.join-requires
join-requires g c =
    let (stand, there, low, of) = c.in-Some.ensures.some in
    let below : stand.state < length c.args.memo.now.rows = All-contains (λ (s : Stand). s.state < length c.args.memo.now.rows) c.args.group.now stand c.requires.states (get-held c.args.group.now c.stands.next stand there) in
    let rows : c.stands.memo.rows ≡ c.args.memo.now.rows = c.stands.invariant.rows in
    let width = c.requires.width in
    let number = c.stands.invariant.number in
    let state : c.in-Some.state < length c.stands.memo.rows = (rw rows (rw (← of) below)) in
    search rules

pub stands-preserved : goal.stands-preserved
stands-preserved g c =
    let (stand, there, low, of) = c.in-Some.ensures.some in
    let inside : c.stands.next < length c.args.group.now = slice_get_within c.args.group.now c.stands.next stand there in
    let joined : IsJoined c.join.new.self (slice_index c.stands.memo.sets c.stands.number) c.in-Some.state c.in_ok-number.number =
    c.in_ok-number.ensures.joined (slice_index c.stands.memo.sets c.stands.number) (numbered-set c.stands.memo.sets c.stands.number c.stands.invariant.number) in
    record {
      rows = c.join.ensures.memo.rows ∙ c.stands.invariant.rows;
      moves = c.join.ensures.memo.moves ∙ c.stands.invariant.moves;
      number = joined-within c.join.new.self (slice_index c.stands.memo.sets c.stands.number) c.in-Some.state c.in_ok-number.number joined;
      forward = (let before = c.stands.invariant.forward in omega arith);
      within = omega arith;
      taken = λ k other least most here. elim (cases_lt k c.stands.next) [
        | inl early ↦ c.stands.invariant.taken k other least early here
        | inr late ↦
            let same : k ≡ c.stands.next = omega arith in
            let one : other ≡ stand = same_Some other stand (sym here ∙ ap (slice_get c.args.group.now) same ∙ there) in
            let place : other.place ≡ stand.place = ap (λ (s : Stand). s.place) one in
            omega arith
      ];
      states = joined-more c.args.group.now c.args.taken c.stands.next stand there c.stands.invariant.forward (slice_index c.args.memo.now.sets c.args.set) (slice_index c.stands.memo.sets c.stands.number)
          (slice_index c.join.new.self.sets c.in_ok-number.number) c.in-Some.state of c.stands.invariant.states
          (joined-set c.join.new.self (slice_index c.stands.memo.sets c.stands.number) c.in-Some.state c.in_ok-number.number joined);
    }
