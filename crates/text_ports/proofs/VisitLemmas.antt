-- How far a visitor has come.
use Rattle.std.proofs.Common.{◌≡◌, ℕ, ◌+◌, ◌≤◌, ◌<◌, List, [], ◌∷◌, ◌++◌, length, drop, refl, sym, ap, ◌∙◌, subst, arith, append_assoc, length-append}
use Rattle.std.proofs.lemmas.List.{append-nil, length_push}
use Rattle.std.proofs.lemmas.List.Elements.{All-nil, All-push}
use Rattle.mine_model.specs.Text.{TextFault, IsSoundLine}
use Rattle.text_ports.specs.Lines.{WasGiven, TookAll, StoppedAt, Refused}
use Rattle.text_ports.specs.Scanning.{lines_behind, BeginsFaulty}

module _ {V : Type 0} (took : V → ℕ → List ℕ → V → Type 0) where
  -- one line more
  WasGiven-more : (number : ℕ) (lines : List (List ℕ)) (text : List ℕ) (before between after : V) → WasGiven took number lines before between
      → took between (number + length lines) text after → WasGiven took number (lines ++ text ∷ []) before after
  WasGiven-more number [] text before between after given took_it =
      let first : took before number text after = subst (λ v. took v number text after) (sym given) (subst (λ n. took between n text after) (let none : number + 0 ≡ number = omega arith in none) took_it) in
      (after, first, refl)
  WasGiven-more number (line ∷ lines) text before between after (next, first, given) took_it =
      (next, first, WasGiven-more (number + 1) lines text next between after given (subst (λ n. took between n text after) (let sum : number + length (line ∷ lines) ≡ number + 1 + length lines = omega arith in sum) took_it))

  -- the lines up to the rest were taken
  pub record IsVisited (bytes rest : List ℕ) (count : ℕ) (before after : V) : Type 0 where
    pub earlier : List (List ℕ)
    pub cut : lines_behind bytes ≡ earlier ++ lines_behind rest
    pub number : count ≡ length earlier
    pub taken : TookAll took earlier before after

  pub IsVisited-start : (bytes : List ℕ) (start : V) → IsVisited bytes bytes 0 start start
  IsVisited-start bytes start = record { earlier = []; cut = refl; number = refl; taken = record { sound = All-nil IsSoundLine; given = refl } }

  pub IsVisited-more : (bytes rest behind : List ℕ) (count : ℕ) (before between after : V) (text : List ℕ) → IsVisited bytes rest count before between
      → lines_behind rest ≡ text ∷ lines_behind behind → IsSoundLine text → took between (count + 1) text after → IsVisited bytes behind (count + 1) before after
  IsVisited-more bytes rest behind count before between after text so_far begins sound took_it =
      let number : count + 1 ≡ 1 + length so_far.earlier = let n = so_far.number in omega (arith, n) in
      record {
        earlier = so_far.earlier ++ text ∷ [];
        cut = so_far.cut ∙ ap (λ w. so_far.earlier ++ w) begins ∙ sym (append_assoc so_far.earlier (text ∷ []) (lines_behind behind));
        number = let n = so_far.number in let more = length_push so_far.earlier text in omega (arith, n, more);
        taken = record {
          sound = All-push IsSoundLine so_far.earlier text so_far.taken.sound sound;
          given = WasGiven-more 1 so_far.earlier text before between after so_far.taken.given (subst (λ n. took between n text after) number took_it);
        };
      }

  -- no bytes are left
  pub TookAll-end : (bytes rest : List ℕ) (count : ℕ) (before after : V) → IsVisited bytes rest count before after → rest ≡ [] → TookAll took (lines_behind bytes) before after × (count ≡ length (lines_behind bytes))
  TookAll-end bytes rest count before after so_far none =
      let whole : lines_behind bytes ≡ so_far.earlier = so_far.cut ∙ ap (λ w. so_far.earlier ++ lines_behind w) none ∙ append-nil so_far.earlier in
      (subst (λ w. TookAll took w before after) (sym whole) so_far.taken, so_far.number ∙ ap length (sym whole))

  pub StoppedAt-here : (bytes rest : List ℕ) (count : ℕ) (before after at_stop : V) (fault : TextFault) (line column : ℕ) → IsVisited bytes rest count before after
      → line ≡ count + 1 → BeginsFaulty rest fault column → at_stop ≡ after → StoppedAt took (lines_behind bytes) before at_stop fault line column
  StoppedAt-here bytes rest count before after at_stop fault line column so_far here (text, later, begins, stands) same = record {
    earlier = so_far.earlier;
    text = text;
    later = later;
    cut = so_far.cut ∙ ap (λ w. so_far.earlier ++ w) begins;
    taken = subst (λ v. TookAll took so_far.earlier before v) (sym same) so_far.taken;
    number = let n = so_far.number in omega (arith, n, here);
    stands = stands;
  }

  pub Refused-here : {X : Type 0} (refused : V → ℕ → List ℕ → X → V → Type 0) (bytes rest : List ℕ) (count : ℕ) (before between after : V) (text : List ℕ) (later : List (List ℕ)) (fault : X)
      → IsVisited bytes rest count before between → lines_behind rest ≡ text ∷ later → IsSoundLine text → refused between (count + 1) text fault after
      → Refused took refused (lines_behind bytes) before after fault
  Refused-here refused bytes rest count before between after text later fault so_far begins sound answer =
      let number : count + 1 ≡ length so_far.earlier + 1 = let n = so_far.number in omega (arith, n) in
      record {
        earlier = so_far.earlier;
        text = text;
        later = later;
        cut = so_far.cut ∙ ap (λ w. so_far.earlier ++ w) begins;
        between = between;
        taken = so_far.taken;
        sound = sound;
        answer = subst (λ n. refused between n text fault after) number answer;
      }
