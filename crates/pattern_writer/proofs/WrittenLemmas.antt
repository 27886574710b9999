-- What a sink and the room in front of it have of a text, as more is put.
use Rattle.std.proofs.Common.{◌≡◌, ℕ, ◌+◌, ◌≤◌, ◌<◌, List, [], ◌++◌, Option, Some, None, IfSome, Result, Ok, Err, IfOk, OnOk, OnErr, length, take, refl, sym, ap, ◌∙◌, subst, arith, append_assoc, length-append}
use Rattle.std.proofs.Math.Seq.{take-append-add}
use Rattle.std.proofs.lemmas.List.{append-nil, take-append-le}
use Rattle.pattern_writer.specs.Written.{IsHeld, IsCut}

-- more bytes in the room
pub held_more : (before after : Option (List ℕ)) (held text x held' text' : List ℕ)
    → IsHeld before after held text → held ++ x ≡ held' → text ++ x ≡ text' → IsHeld before after held' text'
held_more None after held text x held' text' h e t = tt
held_more (Some told) after held text x held' text' (gained, is, whole) e t =
    (gained, is, ap (λ w. gained ++ w) (sym e) ∙ sym (append_assoc gained held x) ∙ ap (λ w. w ++ x) whole ∙ t)

-- the room was handed over
pub handed : (between after : Option (List ℕ)) (whole text : List ℕ)
    → IfSome between (λ told. after ≡ Some (told ++ whole)) → whole ≡ text → IsHeld between after [] text
handed None after whole text h e = tt
handed (Some told) after whole text h e = (whole, h, append-nil whole ∙ e)

-- one step after others
pub held_then : (before between after : Option (List ℕ)) (held text x held' text' : List ℕ)
    → IsHeld before between held text → IsHeld between after held' (held ++ x) → text ++ x ≡ text'
    → IsHeld before after held' text'
held_then None between after held text x held' text' h g t = tt
held_then (Some told) between after held text x held' text' (gained, is, whole) g t =
    let g' : IsHeld (Some (told ++ gained)) after held' (held ++ x) = rw is at g in (
      gained ++ g'.0,
      g'.1 ∙ ap Some (append_assoc told gained g'.0),
      append_assoc gained g'.0 held' ∙ ap (λ w. gained ++ w) g'.2 ∙ sym (append_assoc gained held x) ∙ ap (λ w. w ++ x) whole ∙ t,
    )

-- all was handed over
pub held_over : (before between after : Option (List ℕ)) (held text : List ℕ)
    → IsHeld before between held text → IfSome between (λ told. after ≡ Some (told ++ held))
    → IfSome before (λ told. after ≡ Some (told ++ text))
held_over None between after held text h g = tt
held_over (Some told) between after held text (gained, is, whole) g =
    let g' : after ≡ Some ((told ++ gained) ++ held) = rw is at g in
    g' ∙ ap Some (append_assoc told gained held ∙ ap (λ w. told ++ w) whole)

-- a step that was cut, after others
pub cut_then : (before between after : Option (List ℕ)) (held text x text' : List ℕ)
    → IsHeld before between held text → IsCut between after (held ++ x) → text ++ x ≡ text' → IsCut before after text'
cut_then None between after held text x text' h g t = tt
cut_then (Some told) between after held text x text' (gained, is, whole) g t =
    let g' : IsCut (Some (told ++ gained)) after (held ++ x) = rw is at g in
    let e : gained ++ (held ++ x) ≡ text' = sym (append_assoc gained held x) ∙ ap (λ w. w ++ x) whole ∙ t in
    let less : g'.0 < length (held ++ x) = g'.1 in
    let sum = length-append gained (held ++ x) in
    let same = ap length e in (
      length gained + g'.0,
      omega arith,
      g'.2 ∙ ap Some (append_assoc told gained (take g'.0 (held ++ x))
          ∙ ap (λ w. told ++ w) (sym (take-append-add gained (held ++ x) g'.0) ∙ ap (take (length gained + g'.0)) e)),
    )

-- what was cut is cut of a longer text
pub cut_more : (before after : Option (List ℕ)) (text more text' : List ℕ)
    → IsCut before after text → text ++ more ≡ text' → IsCut before after text'
cut_more None after text more text' h e = tt
cut_more (Some told) after text more text' (n, less, is) e =
    let sum = length-append text more in
    let same = ap length e in
    let fits : n ≤ length text = omega arith in
    (n, omega arith, is ∙ ap (λ w. Some (told ++ w)) (sym (take-append-le n text more fits) ∙ ap (take n) e))

-- what holds anyway holds of an error
pub on_err : {T E : Type 0} (r : Result T E) (P : Type 0) → P → OnErr r P
on_err (Ok x) P p = tt
on_err (Err e) P p = p

-- the last step of several, that answers how much the room holds
pub held_last : {E : Type 0} (r : Result ℕ E) (before between after : Option (List ℕ)) (room held text x text' : List ℕ)
    → IsHeld before between held text → IfOk r (λ n. IsHeld between after (take n room) (held ++ x)) → text ++ x ≡ text'
    → IfOk r (λ n. IsHeld before after (take n room) text')
held_last (Ok n) before between after room held text x text' h g t = held_then before between after held text x (take n room) text' h g t
held_last (Err e) before between after room held text x text' h g t = tt

pub cut_last : {T E : Type 0} (r : Result T E) (before between after : Option (List ℕ)) (held text x text' : List ℕ)
    → IsHeld before between held text → OnErr r (IsCut between after (held ++ x)) → text ++ x ≡ text' → OnErr r (IsCut before after text')
cut_last (Ok v) before between after held text x text' h g t = tt
cut_last (Err e) before between after held text x text' h g t = cut_then before between after held text x text' h g t

-- the last step of all, that hands over what the room holds
pub over_last : {T E : Type 0} (r : Result T E) (before between after : Option (List ℕ)) (held text text' : List ℕ)
    → IsHeld before between held text → OnOk r (IfSome between (λ told. after ≡ Some (told ++ held))) → text ≡ text'
    → OnOk r (IfSome before (λ told. after ≡ Some (told ++ text')))
over_last (Ok v) before between after held text text' h g t =
    held_over before between after held text' (subst (IsHeld before between held) t h) g
over_last (Err e) before between after held text text' h g t = tt

pub cut_over : {T E : Type 0} (r : Result T E) (before between after : Option (List ℕ)) (held text text' : List ℕ)
    → IsHeld before between held text → OnErr r (IsCut between after held) → text ≡ text' → OnErr r (IsCut before after text')
cut_over (Ok v) before between after held text text' h g t = tt
cut_over (Err e) before between after held text text' h g t =
    cut_then before between after held text [] text' h (subst (IsCut between after) (sym (append-nil held)) g) (append-nil text ∙ t)
