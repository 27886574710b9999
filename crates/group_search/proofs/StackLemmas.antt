-- The stack of prefixes that wait.
use Rattle.std.proofs.Common.{◌≡◌, ℕ, ◌+◌, ◌-◌, ◌≤◌, ◌<◌, inl, inr, true, List, [], ◌∷◌, ◌++◌, length, take, drop, slice_range, get_or, refl, sym, ap, ◌∙◌, subst, arith, append_assoc, length-append}
use Rattle.std.specs.List.{AllPairs, Contains}
use Rattle.std.proofs.lemmas.List.{append-nil, map-append, take_all, take-append-le, take-append-drop, take-take, length-take-le, drop-append-le, drop_all}
use Rattle.std.proofs.lemmas.List.Elements.{Contains-append_left, Contains-append_right, Contains-append_cases, Contains-push, Contains-get_or}
use Rattle.mine_model.proofs.ListLemmas.{Contains-cases, Contains-first, Contains-none, AllPairs-append, AllPairs-tail, AllPairs-head, slice_range-append, map-same, pairs-front, pairs-back}
use Rattle.group_search.specs.declared.loads.LoadedState.{LoadedState}
use Rattle.group_search.specs.declared.step.Step.{Step}
use Rattle.group_search.specs.declared.stack.Waiting.{Waiting}
use Rattle.group_search.specs.declared.stack.Stack.{Stack}
use Rattle.group_search.specs.Steps.{Kid, weigh_steps, weigh_by, AreByRank, IsRun, AreKids}
use Rattle.group_search.specs.Waits.{Wait, wait_of, waits_in, waits_of, waits_behind, IsEntry, IsBelow, AreStacked, IsStacked, IsTaken, ArePushed, IsHeavy, HaveGrown}
use Rattle.group_search.proofs.WeighLemmas.{by-append, by-all, steps-less}
use Rattle.group_search.proofs.KidLemmas.{kids-none, kids-light, kids-heavy}

-- Lists

pub pairs-across : {X : Type 0} (R : X → X → Type 0) (xs ys : List X) → AllPairs R (xs ++ ys) → (x y : X) → Contains xs x → Contains ys y → R x y
pairs-across R [] ys pairs x y here there = absurd (Contains-none x here)
pairs-across R (z ∷ xs) ys pairs x y here there = elim (Contains-cases z xs x here) [
  | inl is ↦ subst (λ w. R w y) (sym is) (AllPairs-head R z (xs ++ ys) pairs y (Contains-append_right xs ys y there))
  | inr later ↦ pairs-across R xs ys (AllPairs-tail R z (xs ++ ys) pairs) x y later there
]

range-behind : {X : Type 0} (xs more : List X) → slice_range (xs ++ more) (length xs) (length xs + length more) ≡ more
range-behind xs more =
    let none : drop (length xs) xs ≡ [] = drop_all (length xs) xs (omega arith) in
    let behind : drop (length xs) (xs ++ more) ≡ more = drop-append-le (length xs) xs more (omega arith) ∙ ap (λ l. l ++ more) none in
    ap (λ l. take (length xs + length more - length xs) l) behind ∙ take_all (length xs + length more - length xs) more (omega arith)

-- Entries

-- loads behind those that there are alter no entry
entry-longer : (prefix : List ℕ) (loads more : List LoadedState) (entry : Waiting) → IsEntry prefix loads entry → wait_of prefix (loads ++ more) entry ≡ wait_of prefix loads entry
entry-longer prefix loads more entry is =
    let same : slice_range (loads ++ more) entry.from entry.end ≡ slice_range loads entry.from entry.end = slice_range-append loads more entry.from entry.end is.rises is.held in
    λ i. record { prefix = take entry.depth prefix ++ entry.rank ∷ []; loads = same i }

-- an entry below the one that is taken stays
entry-stays : (prefix : List ℕ) (loads : List LoadedState) (entry next : Waiting) → IsEntry prefix loads entry → IsEntry prefix loads next → IsBelow entry next
    → wait_of prefix loads entry ≡ wait_of (take next.depth prefix ++ next.rank ∷ []) (take next.from loads) entry
entry-stays prefix loads entry next is top below =
    let deep : next.depth ≤ length prefix = top.deep in
    let rises : next.from ≤ next.end = top.rises in
    let inside : next.end ≤ length loads = top.held in
    let less : entry.depth ≤ next.depth = below.depth in
    let before : entry.end ≤ next.from = below.loads in
    let long : length (take next.depth prefix) ≡ next.depth = length-take-le next.depth prefix deep in
    let many : length (take next.from loads) ≡ next.from = length-take-le next.from loads (omega (arith, rises, inside)) in
    let first : take entry.depth (take next.depth prefix ++ next.rank ∷ []) ≡ take entry.depth prefix =
    take-append-le entry.depth (take next.depth prefix) (next.rank ∷ []) (omega (arith, long, less)) ∙ take-take entry.depth next.depth prefix less in
    let range : slice_range loads entry.from entry.end ≡ slice_range (take next.from loads) entry.from entry.end =
    ap (λ l. slice_range l entry.from entry.end) (sym (take-append-drop next.from loads))
    ∙ slice_range-append (take next.from loads) (drop next.from loads) entry.from entry.end is.rises (omega (arith, many, before)) in
    λ i. record { prefix = sym first i ++ entry.rank ∷ []; loads = range i }

entry-still : (prefix : List ℕ) (loads : List LoadedState) (entry next : Waiting) → IsEntry prefix loads entry → IsEntry prefix loads next → IsBelow entry next
    → IsEntry (take next.depth prefix ++ next.rank ∷ []) (take next.from loads) entry
entry-still prefix loads entry next is top below =
    let deep : next.depth ≤ length prefix = top.deep in
    let rises : next.from ≤ next.end = top.rises in
    let inside : next.end ≤ length loads = top.held in
    let less : entry.depth ≤ next.depth = below.depth in
    let before : entry.end ≤ next.from = below.loads in
    let long : length (take next.depth prefix) ≡ next.depth = length-take-le next.depth prefix deep in
    let many : length (take next.from loads) ≡ next.from = length-take-le next.from loads (omega (arith, rises, inside)) in
    let longer : length (take next.depth prefix ++ next.rank ∷ []) ≡ length (take next.depth prefix) + 1 = length-append (take next.depth prefix) (next.rank ∷ []) in
    record { deep = omega (arith, long, less, longer); rises = is.rises; held = omega (arith, many, before) }

-- What is popped

module _ (prefix : List ℕ) (loads : List LoadedState) (front : List Waiting) (next : Waiting) (stacked : AreStacked prefix loads (front ++ next ∷ [])) where
  pub top-entry : IsEntry prefix loads next
  top-entry = stacked.each next (Contains-push front next)

  low-entry : (entry : Waiting) → Contains front entry → IsEntry prefix loads entry
  low-entry entry held = stacked.each entry (Contains-append_left front (next ∷ []) entry held)

  low-below : (entry : Waiting) → Contains front entry → IsBelow entry next
  low-below entry held = pairs-across IsBelow front (next ∷ []) stacked.order entry next held (Contains-first next [])

  abbrev pub new_prefix : List ℕ
  new_prefix = take next.depth prefix ++ next.rank ∷ []

  pub popped-stacked : AreStacked new_prefix (take next.from loads) front
  popped-stacked = record {
    each = λ entry held. entry-still prefix loads entry next (low-entry entry held) top-entry (low-below entry held);
    order = pairs-front IsBelow front (next ∷ []) stacked.order;
  }

  pub popped-waits : waits_in prefix loads (front ++ next ∷ [])
      ≡ waits_in new_prefix (take next.from loads) front ++ (record { prefix = new_prefix; loads = slice_range loads next.from next.end }) ∷ []
  popped-waits =
      map-append (wait_of prefix loads) front (next ∷ [])
      ∙ ap (λ l. l ++ (record { prefix = new_prefix; loads = slice_range loads next.from next.end }) ∷ [])
      (map-same (wait_of prefix loads) (wait_of new_prefix (take next.from loads)) front
      (λ entry held. entry-stays prefix loads entry next (low-entry entry held) top-entry (low-below entry held)))

-- a stack whose fields are these
pub taken : (before after : Stack) (front : List Waiting) (next : Waiting) (current : List LoadedState) → IsStacked before
    → before.waiting.items ≡ front ++ next ∷ [] → after.waiting.items ≡ front
    → after.prefix.items ≡ take next.depth before.prefix.items ++ next.rank ∷ [] → after.loads.items ≡ take next.from before.loads.items
    → current ≡ slice_range before.loads.items next.from next.end → IsTaken before current after
taken before after front next current stacked were are prefix loads current_is =
    let P : List ℕ = before.prefix.items in
    let L : List LoadedState = before.loads.items in
    let whole : AreStacked before.prefix.items before.loads.items (front ++ next ∷ []) =
    subst (AreStacked before.prefix.items before.loads.items) were stacked in
    record {
      stacked = subst (λ (w : List Waiting). AreStacked after.prefix.items after.loads.items w) (sym are)
          (subst (λ (l : List LoadedState). AreStacked after.prefix.items l front) (sym loads)
          (subst (λ (p : List ℕ). AreStacked p (take next.from before.loads.items) front) (sym prefix)
          (popped-stacked before.prefix.items before.loads.items front next whole)));
      last = ap (waits_in before.prefix.items before.loads.items) were
          ∙ popped-waits before.prefix.items before.loads.items front next whole
          ∙ (λ i. waits_in (sym prefix i) (sym loads i) (sym are i) ++ (record { prefix = sym prefix i; loads = sym current_is i }) ∷ []);
    }

-- What is pushed

module _ (prefix : List ℕ) (loads more : List LoadedState) (entries : List Waiting) (entry : Waiting) (stacked : AreStacked prefix loads entries)
    (depth : entry.depth ≡ length prefix) (from : entry.from ≡ length loads) (end : entry.end ≡ length loads + length more) where
  entry-kept : (old : Waiting) → IsEntry prefix loads old → IsEntry prefix (loads ++ more) old
  entry-kept old is =
      let held : old.end ≤ length loads = is.held in
      let longer : length (loads ++ more) ≡ length loads + length more = length-append loads more in
      record { deep = is.deep; rises = is.rises; held = omega (arith, held, longer) }

  entry-new : IsEntry prefix (loads ++ more) entry
  entry-new =
      let longer : length (loads ++ more) ≡ length loads + length more = length-append loads more in
      record { deep = omega (arith, depth); rises = omega (arith, from, end); held = omega (arith, end, longer) }

  last-is : (old : Waiting) → Contains (entry ∷ []) old → old ≡ entry
  last-is old held = elim (Contains-cases entry [] old held) [ inl is ↦ is | inr none ↦ absurd (Contains-none old none) ]

  pub pushed-stacked : AreStacked prefix (loads ++ more) (entries ++ entry ∷ [])
  pushed-stacked = record {
    each = λ old held. elim (Contains-append_cases entries (entry ∷ []) old held) [
      | inl here ↦ entry-kept old (stacked.each old here)
      | inr last ↦ subst (IsEntry prefix (loads ++ more)) (sym (last-is old last)) entry-new
    ];
    order = AllPairs-append IsBelow entries (entry ∷ []) stacked.order (λ i j d less within. absurd (omega (arith, less, within)))
        (λ low high here last. subst (IsBelow low) (sym (last-is high last)) (below low (stacked.each low here)));
  }
    where
      below : (low : Waiting) → IsEntry prefix loads low → IsBelow low entry
      below low is =
          let deep : low.depth ≤ length prefix = is.deep in
          let held : low.end ≤ length loads = is.held in
          record { depth = omega (arith, deep, depth); loads = omega (arith, held, from) }

  pub pushed-waits : waits_in prefix (loads ++ more) (entries ++ entry ∷ [])
      ≡ waits_in prefix loads entries ++ waits_behind prefix ((record { rank = entry.rank; loads = more }) ∷ [])
  pushed-waits =
      map-append (wait_of prefix (loads ++ more)) entries (entry ∷ [])
      ∙ ap (λ l. l ++ wait_of prefix (loads ++ more) entry ∷ [])
      (map-same (wait_of prefix (loads ++ more)) (wait_of prefix loads) entries (λ old held. entry-longer prefix loads more old (stacked.each old held)))
      ∙ ap (λ (w : Wait). waits_in prefix loads entries ++ w ∷ []) new
    where
      whole : take entry.depth prefix ≡ prefix
      whole = take_all entry.depth prefix (omega (arith, depth))

      range : slice_range (loads ++ more) entry.from entry.end ≡ more
      range = (λ i. slice_range (loads ++ more) (from i) (end i)) ∙ range-behind loads more

      new : wait_of prefix (loads ++ more) entry ≡ (record { prefix = prefix ++ entry.rank ∷ []; loads = more })
      new = λ i. record { prefix = whole i ++ entry.rank ∷ []; loads = range i }

pub pushed : (before after : Stack) (rank : ℕ) (more : List LoadedState) (entry : Waiting) → IsStacked before
    → after.prefix.items ≡ before.prefix.items → after.loads.items ≡ before.loads.items ++ more → after.waiting.items ≡ before.waiting.items ++ entry ∷ []
    → entry.depth ≡ length before.prefix.items → entry.rank ≡ rank → entry.from ≡ length before.loads.items → entry.end ≡ length after.loads.items
    → ArePushed before ((record { rank = rank; loads = more }) ∷ []) after
pushed before after rank more entry stacked prefix loads waiting depth rank_is from end =
    let P : List ℕ = before.prefix.items in
    let ends : entry.end ≡ length before.loads.items + length more = end ∙ ap length loads ∙ length-append before.loads.items more in
    record {
      stacked = subst (λ (w : List Waiting). AreStacked after.prefix.items after.loads.items w) (sym waiting)
          (subst (λ (l : List LoadedState). AreStacked after.prefix.items l (before.waiting.items ++ entry ∷ [])) (sym loads)
          (subst (λ (p : List ℕ). AreStacked p (before.loads.items ++ more) (before.waiting.items ++ entry ∷ [])) (sym prefix)
          (pushed-stacked before.prefix.items before.loads.items more before.waiting.items entry stacked depth from ends)));
      prefix = prefix;
      waits = (λ i. waits_in (prefix i) (loads i) (waiting i))
          ∙ pushed-waits before.prefix.items before.loads.items more before.waiting.items entry stacked depth from ends
          ∙ (λ i. waits_of before ++ waits_behind before.prefix.items ((record { rank = rank_is i; loads = more }) ∷ []));
    }

pub pushed-none : (stack : Stack) → IsStacked stack → ArePushed stack [] stack
pushed-none stack stacked = record { stacked = stacked; prefix = refl; waits = sym (append-nil (waits_of stack)) }

-- what was pushed in two steps
pub pushed-both : (before between after : Stack) (kids more : List Kid) → ArePushed before kids between → ArePushed between more after → ArePushed before (kids ++ more) after
pushed-both before between after kids more first second = record {
  stacked = second.stacked;
  prefix = second.prefix ∙ first.prefix;
  waits = second.waits
      ∙ (λ i. first.waits i ++ waits_behind (first.prefix i) more)
      ∙ append_assoc (waits_of before) (waits_behind before.prefix.items kids) (waits_behind before.prefix.items more)
      ∙ ap (λ l. waits_of before ++ l) (sym (map-append (λ (kid : Kid). let w : Wait = record { prefix = before.prefix.items ++ kid.rank ∷ []; loads = kid.loads } in w) kids more));
}

-- Run by run

-- the steps before those that are left were looked at: their kids were pushed
pub record IsGoingOn (threshold : ℕ) (before : Stack) (steps left : List Step) (stack : Stack) : Type 0 where
  pub seen : List Step
  pub kids : List Kid
  pub cut : steps ≡ seen ++ left
  pub sorted : AreByRank left
  pub earlier : (low high : Step) → Contains seen low → Contains left high → low.rank < high.rank
  pub are : AreKids threshold seen kids
  pub pushed : ArePushed before kids stack

pub going-first : (threshold : ℕ) (stack : Stack) (steps : List Step) → 1 ≤ threshold → IsStacked stack → AreByRank steps → IsGoingOn threshold stack steps steps stack
going-first threshold stack steps least stacked sorted = record {
  seen = [];
  kids = [];
  cut = refl;
  sorted = sorted;
  earlier = λ low high here there. absurd (Contains-none low here);
  are = kids-none threshold least;
  pushed = pushed-none stack stacked;
}

module _ (threshold : ℕ) (before : Stack) (steps left : List Step) (stack : Stack) (going : IsGoingOn threshold before steps left stack)
    (rank : ℕ) (run later : List Step) (cut : left ≡ run ++ later) (is_run : IsRun rank run later) (some : 0 < length run) where
  first_step : (step : Step) × Contains run step
  first_step =
      let none : Step = record { rank = 0; state = 0; weight = 0 } in
      (get_or run 0 (record { rank = 0; state = 0; weight = 0 }), Contains-get_or run 0 (record { rank = 0; state = 0; weight = 0 }) some)

  seen_before : (step : Step) → Contains going.seen step → step.rank < rank
  seen_before step held =
      let (first, inside) = first_step in
      let there : Contains left first = subst (λ l. Contains l first) (sym cut) (Contains-append_left run later first inside) in
      let less : step.rank < first.rank = going.earlier step first held there in
      let is : first.rank ≡ rank = is_run.same first inside in
      omega (arith, less, is)

  -- the run weighs no more than the steps by its rank
  pub run-most : weigh_steps (λ k. true) run ≤ weigh_by rank (λ k. true) steps
  run-most =
      let all : weigh_by rank (λ k. true) run ≡ weigh_steps (λ k. true) run = by-all rank (λ k. true) run is_run.same in
      let whole : weigh_by rank (λ k. true) steps ≡ weigh_by rank (λ k. true) (going.seen ++ (run ++ later)) = ap (weigh_by rank (λ k. true)) (going.cut ∙ ap (λ l. going.seen ++ l) cut) in
      let first = by-append rank (λ k. true) going.seen (run ++ later) in
      let second = by-append rank (λ k. true) run later in
      omega (arith, all, whole, first, second)

  abbrev next : (after : Stack) (kids : List Kid) → AreKids threshold (going.seen ++ run) kids → ArePushed before kids after → IsGoingOn threshold before steps later after
  next after kids are pushed = record {
    seen = going.seen ++ run;
    kids = kids;
    cut = going.cut ∙ ap (λ l. going.seen ++ l) cut ∙ sym (append_assoc going.seen run later);
    sorted = pairs-back (λ (low : Step) (high : Step). low.rank ≤ high.rank) run later (subst AreByRank cut going.sorted);
    earlier = λ low high here there. elim (Contains-append_cases going.seen run low here) [
      | inl old ↦ going.earlier low high old (subst (λ l. Contains l high) (sym cut) (Contains-append_right run later high there))
      | inr inside ↦ (let is : low.rank ≡ rank = is_run.same low inside in let less : rank < high.rank = is_run.greater high there in omega (arith, is, less))
    ];
    are = are;
    pushed = pushed;
  }

  pub going-next : (after : Stack) → IsHeavy threshold stack rank run after → IsGoingOn threshold before steps later after
  going-next after (inl light) =
      next after (going.kids ++ [])
      (subst (AreKids threshold (going.seen ++ run)) (sym (append-nil going.kids))
      (kids-light threshold going.seen run rank seen_before is_run.same going.kids going.are light.0 (λ test. steps-less test run)))
      (pushed-both before stack after going.kids [] going.pushed light.1)
  going-next after (inr heavy) =
      next after (going.kids ++ (record { rank = rank; loads = heavy.1.0 }) ∷ [])
      (kids-heavy threshold going.seen run rank seen_before is_run.same going.kids heavy.1.0 going.are heavy.1.1 first_step.0 first_step.1)
      (pushed-both before stack after going.kids ((record { rank = rank; loads = heavy.1.0 }) ∷ []) going.pushed heavy.1.2)

-- the entry on top
pub top-of : (stack : Stack) (front : List Waiting) (next : Waiting) → IsStacked stack → stack.waiting.items ≡ front ++ next ∷ [] → IsEntry stack.prefix.items stack.loads.items next
top-of stack front next stacked is = stacked.each next (subst (λ l. Contains l next) (sym is) (Contains-push front next))
