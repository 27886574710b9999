-- What is posted, held and put stays in balance, step by step.
use Rattle.std.proofs.Common.{◌≡◌, ℕ, ◌+◌, List, [], ◌∷◌, ◌++◌, refl, sym, ap, ◌∙◌, arith, append_assoc, sum_by, flat_map, map}
use Rattle.std.proofs.lemmas.List.{append-nil, map-append}
use Rattle.std.proofs.lemmas.List.Sums.{sum_by-cons, sum_by-append}
use Rattle.search_tree.specs.Cover.{Covers, Shift, IsEven}
use Rattle.mine_model.specs.Labels.{SameLabels}
use Rattle.search_tree.proofs.CoverLemmas.{kids_weight, kids-weight, flat-weight}
use Rattle.node_pool.specs.Pool.{given, got}
use Rattle.node_pool.specs.declared.seat.Seat.{Seat}
use Rattle.turn_lock.specs.Passes.{made}
use Rattle.search_engine.specs.Seats.{IsNext}
use Rattle.search_engine.specs.Workers.{BoardPass, IsShift, IsRun}
use Rattle.search_engine.specs.Shifts.{PostedFrom, IsUnderWay}

-- a list of labels, and one more behind it
weight-last : (weight : List ℕ → ℕ) (labels : List (List ℕ)) (label : List ℕ) → sum_by weight (labels ++ label ∷ []) ≡ sum_by weight labels + weight label
weight-last weight labels label = omega (arith, sum_by-append weight labels (label ∷ []), sum_by-cons weight label [])

module _ (kids : List ℕ → List (List ℕ)) (first posted held : List (List ℕ)) (is : PostedFrom kids first posted held) where
  -- what is held, told otherwise
  pub held-otherwise : (after : List (List ℕ)) → SameLabels held after → PostedFrom kids first posted after
  held-otherwise after same = λ weight. omega (
    arith,
    is weight,
    same weight,
    sum_by-append weight posted held,
    sum_by-append weight posted after,
  )

  -- more came, and is held
  pub more-came : (came all after : List (List ℕ)) → SameLabels all (first ++ came) → SameLabels after (held ++ came) → PostedFrom kids all posted after
  more-came came all after same_all same_after = λ weight. omega (
    arith,
    is weight,
    same_all weight,
    same_after weight,
    sum_by-append weight posted held,
    sum_by-append weight posted after,
    sum_by-append weight first came,
    sum_by-append weight held came,
    sum_by-append weight first (flat_map kids posted),
    sum_by-append weight all (flat_map kids posted),
  )

  -- a label that is held is posted, and its kids are held in its place
  pub one-posted : (label : List ℕ) (rest : List (List ℕ)) → SameLabels held (label ∷ rest)
      → (after : List (List ℕ)) → SameLabels after (rest ++ kids label) → PostedFrom kids first (posted ++ label ∷ []) after
  one-posted label rest was after now = λ weight. omega (
    arith,
    is weight,
    was weight,
    now weight,
    kids-weight kids weight label,
    sum_by-append weight posted held,
    sum_by-append weight (posted ++ label ∷ []) after,
    weight-last weight posted label,
    sum_by-cons weight label rest,
    sum_by-append weight rest (kids label),
    sum_by-append weight first (flat_map kids posted),
    sum_by-append weight first (flat_map kids (posted ++ label ∷ [])),
    flat-weight kids weight posted,
    flat-weight kids weight (posted ++ label ∷ []),
    weight-last (kids_weight kids weight) posted label,
  )

-- a worker's steps
module _ {T G : Type 0} (label_of : T → List ℕ) (ground_of : T → G) (kids : List ℕ → List (List ℕ)) (seat : Seat T G) (pass : BoardPass) where
  pub way-begins : IsUnderWay kids seat seat pass pass []
  way-begins = record {
    shift = record { made = []; given = []; got = [] };
    is_shift = record {
      posted = sym (append-nil (made pass));
      put = sym (append-nil (given seat));
      taken = λ weight. omega (arith, sum_by-append weight (got seat) []);
    };
    balance = λ weight. refl;
  }

  module _ (now : Seat T G) (after : BoardPass) where
    -- the next node was got
    pub way-next : (overflow rest : List T) (node : T) (later : Seat T G) → IsUnderWay kids seat now pass after (map label_of overflow)
        → given later ≡ given now → IsNext label_of ground_of node now later overflow rest → IsUnderWay kids seat later pass after (label_of node ∷ map label_of rest)
    way-next overflow rest node later way same next =
        let s = way.shift in
        let all : List (List ℕ) = s.got ++ next.came in
        record {
          shift = record { made = s.made; given = s.given; got = all };
          is_shift = record {
            posted = way.is_shift.posted;
            put = same ∙ way.is_shift.put;
            taken = λ weight. omega (
              arith,
              next.got_them weight,
              way.is_shift.taken weight,
              sum_by-append weight (got now) next.came,
              sum_by-append weight (got seat) s.got,
              sum_by-append weight (got seat) all,
              sum_by-append weight s.got next.came,
            );
          };
          balance = more-came kids s.got s.made (s.given ++ map label_of overflow) way.balance next.came all (s.given ++ label_of node ∷ map label_of rest)
              (λ weight. refl)
              (λ weight. omega (
                arith,
                next.same weight,
                sum_by-append weight (map label_of overflow) next.came,
                sum_by-append weight s.given (label_of node ∷ map label_of rest),
                sum_by-append weight s.given (map label_of overflow),
                sum_by-append weight (s.given ++ map label_of overflow) next.came,
              ));
        }

    -- its label was posted
    pub way-posted : (label : List ℕ) (rest : List (List ℕ)) (posted : BoardPass) → IsUnderWay kids seat now pass after (label ∷ rest)
        → made posted ≡ made after ++ label ∷ [] → IsUnderWay kids seat now pass posted (rest ++ kids label)
    way-posted label rest posted way more =
        let s = way.shift in
        record {
          shift = record { made = s.made ++ label ∷ []; given = s.given; got = s.got };
          is_shift = record {
            posted = more ∙ ap (λ (l : List (List ℕ)). l ++ label ∷ []) way.is_shift.posted ∙ append_assoc (made pass) s.made (label ∷ []);
            put = way.is_shift.put;
            taken = way.is_shift.taken;
          };
          balance = one-posted kids s.got s.made (s.given ++ label ∷ rest) way.balance label (s.given ++ rest)
              (λ weight. omega (
                arith,
                sum_by-append weight s.given (label ∷ rest),
                sum_by-cons weight (label) rest,
                sum_by-cons weight (label) (s.given ++ rest),
                sum_by-append weight s.given rest,
              ))
              (s.given ++ (rest ++ kids label))
              (λ weight. omega (
                arith,
                sum_by-append weight s.given (rest ++ kids label),
                sum_by-append weight rest (kids label),
                sum_by-append weight s.given rest,
                sum_by-append weight (s.given ++ rest) (kids label),
              ));
        }

    -- its kids were put, or stay in the overflow
    pub way-put : (rest overflow : List T) (more put kept : List (List ℕ)) (later : Seat T G) → IsUnderWay kids seat now pass after (map label_of rest ++ more)
        → given later ≡ given now ++ put → got later ≡ got now → map label_of overflow ≡ map label_of rest ++ kept → SameLabels more (put ++ kept)
        → IsUnderWay kids seat later pass after (map label_of overflow)
    way-put rest overflow more put kept later way given_more same longer are =
        let s = way.shift in
        record {
          shift = record { made = s.made; given = s.given ++ put; got = s.got };
          is_shift = record {
            posted = way.is_shift.posted;
            put = given_more ∙ ap (λ (l : List (List ℕ)). l ++ put) way.is_shift.put ∙ append_assoc (given seat) s.given put;
            taken = λ weight. omega (arith, way.is_shift.taken weight, ap (sum_by weight) same);
          };
          balance = held-otherwise kids s.got s.made (s.given ++ (map label_of rest ++ more)) way.balance ((s.given ++ put) ++ map label_of overflow)
              (λ weight. omega (
                arith,
                are weight,
                ap (sum_by weight) longer,
                sum_by-append weight put kept,
                sum_by-append weight (map label_of rest) kept,
                sum_by-append weight s.given (map label_of rest ++ more),
                sum_by-append weight (map label_of rest) more,
                sum_by-append weight (s.given ++ put) (map label_of overflow),
                sum_by-append weight s.given put,
              ));
        }

    -- no node is left: that was a whole run
    pub way-ends : (later : Seat T G) → IsUnderWay kids seat now pass after [] → given later ≡ given now → got later ≡ got now → IsRun kids seat later pass after
    way-ends later way same_given same_got =
        let s = way.shift in
        record {
          shift = s;
          is_shift = record {
            posted = way.is_shift.posted;
            put = same_given ∙ way.is_shift.put;
            taken = λ weight. omega (arith, way.is_shift.taken weight, ap (sum_by weight) same_got);
          };
          even = λ weight. omega (
            arith,
            way.balance weight,
            sum_by-append weight s.made (s.given ++ []),
            sum_by-append weight s.given [],
            sum_by-append weight s.made s.given,
          );
        }

-- the last node of a list is posted, and its kids stand in its place
pub rest-step : {T : Type 0} (label_of : T → List ℕ) (kids : List ℕ → List (List ℕ)) (first posted : List (List ℕ)) (front more : List T) (node : T)
    → PostedFrom kids first posted (map label_of (front ++ node ∷ [])) → map label_of more ≡ kids (label_of node)
    → PostedFrom kids first (posted ++ label_of node ∷ []) (map label_of (front ++ more))
rest-step label_of kids first posted front more node is are =
    one-posted kids first posted (map label_of (front ++ node ∷ [])) is (label_of node) (map label_of front)
    (λ weight. omega (
      arith,
      ap (sum_by weight) (map-append label_of front (node ∷ [])),
      weight-last weight (map label_of front) (label_of node),
      sum_by-cons weight (label_of node) (map label_of front),
    ))
    (map label_of (front ++ more))
    (λ weight. omega (
      arith,
      ap (sum_by weight) (map-append label_of front more),
      sum_by-append weight (map label_of front) (map label_of more),
      sum_by-append weight (map label_of front) (kids (label_of node)),
      ap (sum_by weight) are,
    ))
