use Rattle.std.proofs.Common.{◌≡◌, ◌∙◌, ℕ, List, length, sym, ap, subst, arith}
use Rattle.std.specs.List.{Contains, slice_get}
use Rattle.std.specs.Vec.{with_items}
use Rattle.std.proofs.lemmas.List.{with_items_is}
use Rattle.std.proofs.lemmas.Option.{same_Some}
use Rattle.std.proofs.lemmas.Result.{IfOk-weaker}
use Rattle.mine_model.proofs.ElementLemmas.{get-held}
use Rattle.place_walk.specs.Courses.{Course, course_of}
use Rattle.level_ahead.specs.Counts.{Behind, asked_of, AreAdded}
use Rattle.level_ahead.specs.Kept.{behind_at, behinds}
use Rattle.level_ahead.proofs.RoomLemmas.{asked-is, entry-at, not-asked}
use Rattle.level_ahead.proofs.ahead.Ahead.add.Goals as goal

pub count_all-requires : goal.count_all-requires
count_all-requires g c =
    let ranks : List ℕ = c.self.inside.ranks.items in
    let asked : asked_of c.args.self.now ≡ ranks = ap asked_of (sym c.self.view_is) ∙ asked-is c.self.inside.counts.items ranks in (
      omega arith,
      (
        c.requires.width,
        (
          c.requires.few,
          (
            c.requires.moves,
            (
              c.requires.kept,
              (
                c.requires.asked,
                (
                  c.requires.few_ranks,
                  (
                    not-asked c.args.lacking ranks (asked_of c.args.self.now) c.self.inside.asked asked c.self.invariant.asked_are c.requires.apart,
                    (
                      (λ visit rank held asks opening.
                          c.requires.behind visit rank held (subst (λ (l : List ℕ). Contains l rank) (sym asked) ((c.self.invariant.asked_are rank).0 asks)) opening),
                      (
                        c.self.invariant.sets_room,
                        (λ rank asks.
                            let less = c.self.invariant.counts_room rank asks in
                            let same = ap (λ (l : List (List ℕ)). length l) c.as_mut_slice.ensures.value in
                            omega (arith, less, same)),
                      ),
                    ),
                  ),
                ),
              ),
            ),
          ),
        ),
      ),
    )

pub returns-clause-asked : goal.returns-clause-asked
returns-clause-asked g c =
    asked-is (with_items c.self.inside.counts c.count_all.new.counts).items c.self.inside.ranks.items ∙ sym (asked-is c.self.inside.counts.items c.self.inside.ranks.items) ∙ ap asked_of c.self.view_is

pub returns-clause-counted : goal.returns-clause-counted
returns-clause-counted g c =
    let course : Course = course_of c.args.memo.now c.args.places.now in
    let outputs = g.T.Outputs.ranks c.args.table.now in
    let ranks : List ℕ = c.self.inside.ranks.items in
    let old : List (List ℕ) = c.self.inside.counts.items in
    let given : List (List ℕ) = c.as_mut_slice.result.now in
    let value : given ≡ old = c.as_mut_slice.ensures.value in
    let new : List (List ℕ) = c.count_all.new.counts in
    let long : length new ≡ c.self.inside.counts.len = c.count_all.ensures.room ∙ c.as_mut_slice.ensures.len in
    let kept : (with_items c.self.inside.counts new).items ≡ new = with_items_is c.self.inside.counts new long in
    IfOk-weaker c.count_all.result _ _
    (λ ended counted quiet sequences are k before after at also.
    let (rank, there, is) = entry-at old ranks k before (ap (λ (l : List Behind). slice_get l k) c.self.view_is ∙ at) in
    let (rank', there', is') = entry-at new ranks k after (ap (λ (l : List (List ℕ)). slice_get (behinds l ranks) k) (sym kept) ∙ also) in
    let same : rank' ≡ rank = same_Some rank' rank (sym there' ∙ there) in
    let added : AreAdded course outputs c.args.lacking sequences (behind_at old rank) (behind_at new rank) =
    subst (λ (l : List (List ℕ)). AreAdded course outputs c.args.lacking sequences (behind_at l rank) (behind_at new rank)) value (counted quiet sequences are rank ((c.self.invariant.asked_are rank).1 (get-held ranks k rank there))) in
    subst (λ (b : Behind). AreAdded course outputs c.args.lacking sequences b after) (sym is)
    (subst (AreAdded course outputs c.args.lacking sequences (behind_at old rank)) (ap (behind_at new) (sym same) ∙ sym is') added))
    c.count_all.ensures.counted

pub returns-clause-goes : goal.returns-clause-goes
returns-clause-goes g c =
    let ranks : List ℕ = c.self.inside.ranks.items in
    let asked : asked_of c.args.self.now ≡ ranks = ap asked_of (sym c.self.view_is) ∙ asked-is c.self.inside.counts.items ranks in
    IfOk-weaker c.count_all.result _ _
    (λ ended goes stays.
    let (rank, asks, there) = goes stays in
    (rank, subst (λ (l : List ℕ). Contains l rank) (sym asked) ((c.self.invariant.asked_are rank).0 asks), there))
    c.count_all.ensures.goes
