-- The stands of a longer prefix, sequence after sequence.
use Rattle.std.proofs.Common.{◌≡◌, ◌↔◌, ℕ, zero, suc, ◌+◌, ◌-◌, ◌⊎◌, inl, inr, Bool, true, false, true≢false, IsTrue, Some, List, [], ◌∷◌, ◌++◌, length, map, drop, take, refl, sym, ap, ◌∙◌, subst, arith}
use Rattle.std.specs.List.{AllZip, Contains, filter, slice_get, slice_range}
use Rattle.std.proofs.lemmas.Bool.{false_from_ne_true}
use Rattle.std.proofs.lemmas.List.{length-append}
use Rattle.std.proofs.lemmas.Option.{same_Some}
use Rattle.mine_model.proofs.ElementLemmas.{get-some, get-left}
use Rattle.mine_model.proofs.ListLemmas.{Contains-cases, Contains-first, Contains-other, Contains-none, Contains-by, Contains-from}
use Rattle.walk_memo.specs.declared.action.Action.{Action}
use Rattle.place_walk.specs.declared.visit.Visit.{Visit}
use Rattle.place_walk.specs.declared.stand.Stand.{Stand}
use Rattle.place_walk.specs.Courses.{Course}
use Rattle.place_walk.specs.Stands.{StandsAt, Arrives}
use Rattle.place_walk.specs.Visits.{IsVisit, AreVisits}
use Rattle.place_walk.specs.Groups.{IsGroup, AreGroups}
use Rattle.place_walk.specs.Ways.{IsGroupEnd}
use Rattle.place_walk.proofs.GroupLemmas.{group-is, behind-is}
use Rattle.stand_sums.specs.Writings.{Ranks, opens}
use Rattle.stand_sums.specs.Files.{stand_at, stands_at, stands_in, stands_of}
use Rattle.mask_sums.specs.Kept.{free}
use Rattle.stand_sums.proofs.GroupLemmas.{plain-at}

-- ---- stands that differ in their marks

module _ (course : Course) (one other : List Stand) (alike : (place state : ℕ) → StandsAt one place state → StandsAt other place state) where
  arrives-alike : (place state : ℕ) → Arrives course one place state → Arrives course other place state
  arrives-alike zero state arrives = absurd arrives
  arrives-alike (suc before) state (from, entry, move, holds, either, leads, silent) =
      (from, entry, move, holds, elim either [ inl arrives ↦ inl (arrives-alike before from arrives) | inr stands ↦ inr (alike before from stands) ], leads, silent)

  pub visit-alike : (place kind : ℕ) (action : Action) → IsVisit course one place kind action → IsVisit course other place kind action
  visit-alike place kind action is = record {
    before = is.before;
    behind = is.behind;
    entry = is.entry;
    move = is.move;
    holds = is.holds;
    kind_is = is.kind_is;
    from = is.from;
    is_at = elim is.is_at [ inl arrives ↦ inl (arrives-alike is.before is.from arrives) | inr stands ↦ inr (alike is.before is.from stands) ];
    leads = is.leads;
    writes = is.writes;
    marks = is.marks;
  }

pub mark-alike : (visit : Visit) (one other : Bool) (place state : ℕ) → StandsAt (stand_at one visit ∷ []) place state → StandsAt (stand_at other visit ∷ []) place state
mark-alike visit one other place state (stand, held, at, in') = elim (Contains-cases (stand_at one visit) [] stand held) [
  | inl same ↦ (stand_at other visit, Contains-first (stand_at other visit) [], sym (ap (λ (s : Stand). s.place) same) ∙ at, sym (ap (λ (s : Stand). s.state) same) ∙ in')
  | inr no' ↦ absurd (Contains-none stand no')
]

-- ---- the stands behind visits

pub behind-stand : (visits : List Visit) (stand : Stand) → Contains (stands_at visits) stand → (visit : Visit) × Contains visits visit × (mark : Bool) × (stand ≡ stand_at mark visit)
behind-stand [] stand held = absurd (Contains-none stand held)
behind-stand (visit ∷ visits) stand held = elim (Contains-cases (stand_at true visit) (map (stand_at false) visits) stand held) [
  | inl same ↦ (visit, Contains-first visit visits, true, same)
  | inr there ↦ let (one, inside, same) = Contains-from (stand_at false) visits stand there in (one, Contains-other visit visits one inside, false, same)
]

pub stand-behind : (visits : List Visit) (visit : Visit) → Contains visits visit → Contains (stands_at visits) (stand_at true visit) ⊎ Contains (stands_at visits) (stand_at false visit)
stand-behind [] visit held = absurd (Contains-none visit held)
stand-behind (first ∷ visits) visit held = elim (Contains-cases first visits visit held) [
  | inl same ↦
      inl (subst (λ (v : Visit). Contains (stands_at (first ∷ visits)) (stand_at true v)) (sym same) (Contains-first (stand_at true first) (map (stand_at false) visits)))
  | inr there ↦ inr (Contains-other (stand_at true first) (map (stand_at false) visits) (stand_at false visit) (Contains-by (stand_at false) visits visit there))
]

-- ---- groups

pub group-at : (visit : Visit) (visits : List Visit) → IsGroup (stands_at (visit ∷ visits))
group-at visit visits = record { some = omega arith; marked = marked }
  where
    marked : (k : ℕ) (stand : Stand) → slice_get (stands_at (visit ∷ visits)) k ≡ Some stand → IsTrue stand.first ↔ (k ≡ 0)
    marked zero stand at = ((λ is. refl), (λ none. subst (λ (s : Stand). IsTrue s.first) (same_Some (stand_at true visit) stand at) refl))
    marked (suc k) stand at =
        let plain = plain-at visits k stand at in
        ((λ is. absurd (true≢false (sym is ∙ plain))), (λ none. absurd (let no' : suc k ≡ 0 = none in omega arith)))

get-past : (xs ys : List Stand) → slice_get (xs ++ ys) (length xs) ≡ slice_get ys 0
get-past [] ys = refl
get-past (x ∷ xs) ys = get-past xs ys

take-all-of : (xs ys : List Stand) → take (length xs) (xs ++ ys) ≡ xs
take-all-of [] ys = refl
take-all-of (x ∷ xs) ys = ap (λ (l : List Stand). x ∷ l) (take-all-of xs ys)

drop-all-of : (xs ys : List Stand) → drop (length xs) (xs ++ ys) ≡ ys
drop-all-of [] ys = refl
drop-all-of (x ∷ xs) ys = drop-all-of xs ys

-- a group, and those behind it
record IsCutOff (here behind : List Stand) (groups : List (List Stand)) : Type 0 where
  pub rest : List (List Stand)
  pub cut : groups ≡ here ∷ rest
  pub rest_are : AreGroups behind rest

cut-off : (here behind : List Stand) → IsGroup here → ((stand : Stand) → slice_get behind 0 ≡ Some stand → IsTrue stand.first) → (groups : List (List Stand)) → AreGroups (here ++ behind) groups → IsCutOff here behind groups
cut-off here behind is first [] none = absurd (let some = is.some in let same : length here + length behind ≡ 0 = sym (length-append here behind) ∙ ap (λ (l : List Stand). length l) none in omega arith)
cut-off here behind is first (group ∷ groups) (others, cut, group_is, are) =
    let stands : List Stand = here ++ behind in
    let end : ℕ = length here in
    let long : length stands ≡ length here + length behind = length-append here behind in
    let ends : IsGroupEnd stands 0 end = record {
      some = is.some;
      within = omega (arith, long);
      here = λ k stand past before at.
          let (one, there) = get-some here k before in
          let same : one ≡ stand = same_Some one stand (sym (get-left here behind k one there) ∙ at) in
          subst (λ (s : Stand). s.first ≡ false) same (false_from_ne_true one.first (λ marked. let none = (is.marked k one there).0 marked in absurd (omega arith)));
      next = λ stand at. first stand (sym (get-past here behind) ∙ at);
    } in
    let same : slice_range stands 0 end ≡ group = group-is stands 0 end ends group others groups cut group_is are in
    let left : drop end stands ≡ others = behind-is stands 0 end ends group others groups cut group_is are in
    record {
      rest = groups;
      cut = ap (λ (l : List Stand). l ∷ groups) (sym same ∙ ap (λ (n : ℕ). take n stands) (let e : end - 0 ≡ end = omega arith in e) ∙ take-all-of here behind);
      rest_are = subst (λ (l : List Stand). AreGroups l groups) (sym left ∙ drop-all-of here behind) are;
    }

first-of : (visits : List Visit) (rest : List Stand) → ((stand : Stand) → slice_get rest 0 ≡ Some stand → IsTrue stand.first) → (stand : Stand) → slice_get (stands_at visits ++ rest) 0 ≡ Some stand → IsTrue stand.first
first-of [] rest first stand at = first stand at
first-of (visit ∷ visits) rest first stand at = subst (λ (s : Stand). IsTrue s.first) (same_Some (stand_at true visit) stand at) refl

first-marked : (ranks : Ranks) (rank : ℕ) (sequences : List (List Visit)) (stand : Stand) → slice_get (stands_of ranks free rank sequences) 0 ≡ Some stand → IsTrue stand.first
first-marked ranks rank [] stand at = absurd (cc)
first-marked ranks rank (here ∷ sequences) stand at =
    first-of (filter (opens ranks free rank) here) (stands_of ranks free rank sequences) (first-marked ranks rank sequences) stand at

-- ---- the sequences in which there are stands, and the visits of these

abbrev pub AreMatched : Course → Ranks → ℕ → List (List Visit) → List (List Visit) → Type 0
AreMatched course ranks rank [] kids = kids ≡ []
AreMatched course ranks rank (here ∷ sequences) kids =
    ((filter (opens ranks free rank) here ≡ []) × AreMatched course ranks rank sequences kids)
    ⊎ ((kid : List Visit) × (others : List (List Visit)) × (kids ≡ kid ∷ others) × AreVisits course (stands_in ranks free rank here) kid × AreMatched course ranks rank sequences others)

module _ (course : Course) (ranks : Ranks) (rank : ℕ) (here : List Visit) (sequences : List (List Visit))
    (rest-of : (groups : List (List Stand)) (kids : List (List Visit)) → AreGroups (stands_of ranks free rank sequences) groups → AllZip (AreVisits course) groups kids → AreMatched course ranks rank sequences kids) where
  both : (group : List Stand) (rest : List (List Stand)) (kids : List (List Visit)) → group ≡ stands_in ranks free rank here → AreGroups (stands_of ranks free rank sequences) rest → AllZip (AreVisits course) (group ∷ rest) kids
      → AreMatched course ranks rank (here ∷ sequences) kids
  both group rest [] same rest_are zip = absurd zip
  both group rest (kid ∷ others) same rest_are (one, zips) =
      inr (kid, others, refl, subst (λ (l : List Stand). AreVisits course l kid) same one, rest-of rest others rest_are zips)

  one-matched : (groups : List (List Stand)) (kids : List (List Visit)) → AreGroups (stands_of ranks free rank (here ∷ sequences)) groups → AllZip (AreVisits course) groups kids
      → (visits : List Visit) → filter (opens ranks free rank) here ≡ visits → AreMatched course ranks rank (here ∷ sequences) kids
  one-matched groups kids are zip [] none =
      inl (none, rest-of groups kids (subst (λ (l : List Visit). AreGroups (stands_at l ++ stands_of ranks free rank sequences) groups) none are) zip)
  one-matched groups kids are zip (visit ∷ visits) some =
      let off = cut-off (stands_at (visit ∷ visits)) (stands_of ranks free rank sequences) (group-at visit visits) (first-marked ranks rank sequences) groups
      (subst (λ (l : List Visit). AreGroups (stands_at l ++ stands_of ranks free rank sequences) groups) some are) in
      both (stands_at (visit ∷ visits)) off.rest kids (ap stands_at (sym some)) off.rest_are (subst (λ (gs : List (List Stand)). AllZip (AreVisits course) gs kids) off.cut zip)

pub matched : (course : Course) (ranks : Ranks) (rank : ℕ) (sequences : List (List Visit)) (groups : List (List Stand)) (kids : List (List Visit)) → AreGroups (stands_of ranks free rank sequences) groups
    → AllZip (AreVisits course) groups kids → AreMatched course ranks rank sequences kids
matched course ranks rank [] [] [] none zip = refl
matched course ranks rank [] [] (kid ∷ kids) none zip = absurd zip
matched course ranks rank [] (group ∷ groups) kids (behind, is, group_is, are) zip =
    absurd (let some = group_is.some in let same : length group + length behind ≡ 0 = sym (length-append group behind) ∙ sym (ap (λ (l : List Stand). length l) is) in omega arith)
matched course ranks rank (here ∷ sequences) groups kids are zip =
    one-matched course ranks rank here sequences (λ gs ks these zips. matched course ranks rank sequences gs ks these zips) groups kids are zip (filter (opens ranks free rank) here) refl
