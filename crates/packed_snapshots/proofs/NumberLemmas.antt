-- Lemmas on numbers as bytes.
use Rattle.std.proofs.Common.{◌≡◌, ◌≢◌, ℕ, ◌+◌, ◌*◌, ◌-◌, ◌/◌, ◌%◌, ◌<◌, ◌≤◌, ◌^◌, inl, inr, zero, suc, Bool, true, false, nat_lt, List, [], ◌∷◌, ◌++◌, All, length, get_or, drop, length-drop, refl, sym, ◌∙◌, ap, subst, append_assoc, arith}
use Rattle.std.proofs.Math.Nat.{mod-add-div, mod-lt, mod-eq_of_lt, div-lt_iff_lt-mul, pow-suc}
use Rattle.std.proofs.lemmas.Bool.{lt-ltb, le-ltb, ltb-true}
use Rattle.std.proofs.lemmas.List.Elements.{All-append, All-nil, All-cons, All-head, All-tail}
use Rattle.std.proofs.lemmas.List.{append-nil, drop_more}
use Rattle.packed_snapshots.specs.Numbers.{worth, IsContinued, IsNumber, AreNumbers, most_bytes}
use Rattle.packed_snapshots.specs.Ahead.{number_ahead, bytes_behind, IsAhead, numbers_in}

-- a byte with its top bit set goes on
pub number_ahead-continued : (byte : ℕ) (more : List ℕ) → 128 ≤ byte → number_ahead (byte ∷ more) ≡ byte % 128 + 128 * number_ahead more
number_ahead-continued byte more le = rw (le-ltb byte 128 le) refl

pub bytes_behind-continued : (byte : ℕ) (more : List ℕ) → 128 ≤ byte → bytes_behind (byte ∷ more) ≡ bytes_behind more
bytes_behind-continued byte more le = rw (le-ltb byte 128 le) refl

-- another byte ends its number
pub number_ahead-ended : (byte : ℕ) (more : List ℕ) → byte < 128 → number_ahead (byte ∷ more) ≡ byte
number_ahead-ended byte more lt = rw (lt-ltb byte 128 lt) refl

pub bytes_behind-ended : (byte : ℕ) (more : List ℕ) → byte < 128 → bytes_behind (byte ∷ more) ≡ more
bytes_behind-ended byte more lt = rw (lt-ltb byte 128 lt) refl

-- what bytes that end a number are worth is what the walk reads
pub worth-ahead : (front : List ℕ) (last : ℕ) (rest : List ℕ) → All IsContinued front → last < 128 → number_ahead (front ++ last ∷ rest) ≡ worth (front ++ last ∷ [])
worth-ahead [] last rest all lt = rw (number_ahead-ended last rest lt, mod-eq_of_lt lt) (omega arith)
worth-ahead (byte ∷ front) last rest all lt =
    rw (number_ahead-continued byte (front ++ last ∷ rest) (All-head IsContinued byte front all).set, worth-ahead front last rest (All-tail IsContinued byte front all) lt) refl

pub behind-front : (front : List ℕ) (last : ℕ) (rest : List ℕ) → All IsContinued front → last < 128 → bytes_behind (front ++ last ∷ rest) ≡ rest
behind-front [] last rest all lt = bytes_behind-ended last rest lt
behind-front (byte ∷ front) last rest all lt =
    bytes_behind-continued byte (front ++ last ∷ rest) (All-head IsContinued byte front all).set ∙ behind-front front last rest (All-tail IsContinued byte front all) lt

-- where the last byte is not 0, nor is the number
pub 0-lt-ahead : (front : List ℕ) (last : ℕ) (rest : List ℕ) → All IsContinued front → last < 128 → 0 < last → 0 < number_ahead (front ++ last ∷ rest)
0-lt-ahead [] last rest all lt least = rw (number_ahead-ended last rest lt) least
0-lt-ahead (byte ∷ front) last rest all lt least =
    let more = 0-lt-ahead front last rest (All-tail IsContinued byte front all) lt least in
    rw (number_ahead-continued byte (front ++ last ∷ rest) (All-head IsContinued byte front all).set) (omega (arith, more))

pub IsAhead-front : (front : List ℕ) (last : ℕ) (rest : List ℕ) → All IsContinued front → last < 128 → (front ≢ [] → 0 < last) → IsAhead (front ++ last ∷ rest)
IsAhead-front [] last rest all lt least = inl lt
IsAhead-front (byte ∷ front) last rest all lt least =
    let above : 0 < last = least (λ e. omega (arith, ap length e)) in
    inr ((All-head IsContinued byte front all).set, (All-head IsContinued byte front all).fits, IsAhead-front front last rest (All-tail IsContinued byte front all) lt (λ _. above), 0-lt-ahead front last rest (All-tail IsContinued byte front all) lt above)

-- the number of bytes, and what the walk finds behind it
pub numbers_in-ahead : (bytes : List ℕ) → IsAhead bytes → numbers_in bytes ≡ number_ahead bytes ∷ numbers_in (bytes_behind bytes)
numbers_in-ahead [] ahead = absurd ahead
numbers_in-ahead (byte ∷ more) (inl lt) = rw (lt-ltb byte 128 lt) refl
numbers_in-ahead (byte ∷ more) (inr (le, fits, ahead, least)) =
    rw (le-ltb byte 128 le, numbers_in-ahead more ahead) refl

-- the number at the front of bytes is the one whose bytes stand there
pub number_ahead-own : (number : ℕ) (own rest : List ℕ) → IsNumber number own → number_ahead (own ++ rest) ≡ number
number_ahead-own number own rest is =
    rw (is.joined, append_assoc is.front (is.last ∷ []) rest)
    (worth-ahead is.front is.last rest is.continued is.ended ∙ (ap worth (sym is.joined) ∙ sym is.exact))

pub bytes_behind-own : (number : ℕ) (own rest : List ℕ) → IsNumber number own → bytes_behind (own ++ rest) ≡ rest
bytes_behind-own number own rest is =
    rw (is.joined, append_assoc is.front (is.last ∷ []) rest) (behind-front is.front is.last rest is.continued is.ended)

pub IsAhead-own : (number : ℕ) (own rest : List ℕ) → IsNumber number own → IsAhead (own ++ rest)
IsAhead-own number own rest is =
    rw (is.joined, append_assoc is.front (is.last ∷ []) rest)
    (IsAhead-front is.front is.last rest is.continued is.ended is.shortest)

-- the walk finds the numbers
pub numbers_in-AreNumbers : (numbers bytes : List ℕ) → AreNumbers numbers bytes → numbers_in bytes ≡ numbers
numbers_in-AreNumbers [] bytes same = rw same refl
numbers_in-AreNumbers (number ∷ numbers) bytes (own, rest, is, are, joined) =
    rw (joined, numbers_in-ahead (own ++ rest) (IsAhead-own number own rest is), number_ahead-own number own rest is, bytes_behind-own number own rest is, numbers_in-AreNumbers numbers rest are) refl

-- one more number behind others
pub AreNumbers-append : (numbers bytes : List ℕ) (number : ℕ) (own : List ℕ) → AreNumbers numbers bytes → IsNumber number own → AreNumbers (numbers ++ number ∷ []) (bytes ++ own)
AreNumbers-append [] bytes number own same is = (own, [], is, refl, rw (same, append-nil) refl)
AreNumbers-append (one ∷ numbers) bytes number own (first, rest, first_is, are, joined) is =
    (first, rest ++ own, first_is, AreNumbers-append numbers rest number own are is, rw joined (append_assoc first rest own))

-- the lower seven bits
pub low_bits : (byte : ℕ) → 128 ≤ byte → byte < 256 → byte % 128 ≡ byte - 128
low_bits byte le fits =
    let whole : byte % 128 + 128 * (byte / 128) ≡ byte = mod-add-div byte 128 in
    let low : byte % 128 < 128 = mod-lt byte (omega arith) in
    omega (arith, whole, low, le, fits)

-- what is written of a number: these bytes, of which each goes on, and what is left of it is worth the rest
pub record IsWritten (number rest : ℕ) (front : List ℕ) : Type 0 where
  pub continued : All IsContinued front
  pub least : front ≢ [] → 0 < rest
  pub exact : (tail : List ℕ) → worth tail ≡ rest → worth (front ++ tail) ≡ number

pub IsWritten-start : (number : ℕ) → IsWritten number number []
IsWritten-start number = record { continued = All-nil IsContinued; least = λ no. absurd (no refl); exact = λ tail e. e }

pub IsWritten-step : (number rest : ℕ) (front : List ℕ) → IsWritten number rest front → 128 ≤ rest → IsWritten number (rest / 128) (front ++ (rest % 128 + 128) ∷ [])
IsWritten-step number rest front is le =
    let low : rest % 128 < 128 = mod-lt rest (omega arith) in
    let whole : rest % 128 + 128 * (rest / 128) ≡ rest = mod-add-div rest 128 in
    record {
      continued = All-append IsContinued front ((rest % 128 + 128) ∷ []) is.continued (All-cons IsContinued (rest % 128 + 128) [] (record { set = omega arith; fits = omega (arith, low) }) (All-nil IsContinued));
      least = λ _. omega (arith, whole, low, le);
      exact = λ tail e. rw (append_assoc front ((rest % 128 + 128) ∷ []) tail)
          (is.exact ((rest % 128 + 128) ∷ tail) (rw (e, low_bits (rest % 128 + 128) (omega arith) (omega (arith, low))) (omega (arith, whole))));
    }

pub IsWritten-end : (number rest : ℕ) (front : List ℕ) → IsWritten number rest front → rest < 128 → IsNumber number (front ++ rest ∷ [])
IsWritten-end number rest front is lt = record {
  front = front;
  last = rest;
  joined = refl;
  continued = is.continued;
  ended = lt;
  shortest = is.least;
  exact = sym (is.exact (rest ∷ []) (rw (mod-eq_of_lt lt) (omega arith)));
}

-- room for what is left of a number
pub room-step : (rest room : ℕ) → rest < 128 ^ suc room → 128 ≤ rest → (less : ℕ) × (room ≡ suc less) × (rest / 128 < 128 ^ suc less)
room-step rest zero lt le = absurd (omega (arith, lt, le))
room-step rest (suc less) lt le = (less, refl, (div-lt_iff_lt-mul {k = 128} {x = rest} {y = 128 ^ suc less} (omega arith)).1 (subst (λ limit. rest < limit) (pow-suc 128 (suc less)) lt))

room-by : (number : ℕ) (small : Bool) → nat_lt number (2 ^ 21) ≡ small → number < 2 ^ 32 → (room : ℕ) × (suc room ≡ most_bytes number) × (number < 128 ^ suc room)
room-by number true is lt = (2, rw is refl, ltb-true number (2 ^ 21) is)
room-by number false is lt = (4, rw is refl, omega (arith, lt))

-- room for a whole number
pub room-start : (number : ℕ) → number < 2 ^ 32 → (room : ℕ) × (suc room ≡ most_bytes number) × (number < 128 ^ suc room)
room-start number = room-by number (nat_lt number (2 ^ 21)) refl

-- the walk goes on behind this byte
pub record GoesOn (byte : ℕ) (more : List ℕ) : Type 0 where
  pub number : number_ahead (byte ∷ more) ≡ byte - 128 + 128 * number_ahead more
  pub ahead : IsAhead more
  pub behind : bytes_behind (byte ∷ more) ≡ bytes_behind more
  pub least : 0 < number_ahead more

pub ahead-on : (byte : ℕ) (more : List ℕ) → IsAhead (byte ∷ more) → 128 ≤ byte → GoesOn byte more
ahead-on byte more (inl lt) le = absurd (omega (arith, lt, le))
ahead-on byte more (inr (_, fits, ahead, least)) le = record {
  number = number_ahead-continued byte more le ∙ ap (λ low. low + 128 * number_ahead more) (low_bits byte le fits);
  ahead = ahead;
  behind = bytes_behind-continued byte more le;
  least = least;
}

-- the same, at a place of bytes
pub ahead-inside : (bytes : List ℕ) (at : ℕ) → IsAhead (drop at bytes) → at < length bytes
ahead-inside bytes at ahead = below (drop at bytes) refl ahead
  where
    below : (rest : List ℕ) → drop at bytes ≡ rest → IsAhead rest → at < length bytes
    below [] same none = absurd none
    below (byte ∷ more) same _ = let long = length-drop at bytes in omega (arith, long, ap length same)

pub ahead-on-at : (bytes : List ℕ) (at : ℕ) → IsAhead (drop at bytes) → 128 ≤ get_or bytes at 0 → GoesOn (get_or bytes at 0) (drop (at + 1) bytes)
ahead-on-at bytes at ahead = ahead-on (get_or bytes at 0) (drop (at + 1) bytes) (subst IsAhead (drop_more bytes at 0 (ahead-inside bytes at ahead)) ahead)

-- what the walk has read, and what is left of the number
pub read-step : (number unit : ℕ) (low more total : ℕ) → number + unit * (low + 128 * more) ≡ total → number + unit * low + unit * 128 * more ≡ total
read-step number unit low more total same = omega (arith, same)

-- bytes that end in something are worth something
0-lt-worth : (front : List ℕ) (last : ℕ) → All IsContinued front → last < 128 → 0 < last → 0 < worth (front ++ last ∷ [])
0-lt-worth front last all lt least =
    subst (λ number. 0 < number) (worth-ahead front last [] all lt) (0-lt-ahead front last [] all lt least)

-- a number has one row of bytes
front-one : (front front' : List ℕ) (last last' : ℕ) → All IsContinued front → All IsContinued front' → last < 128 → last' < 128 → (front ≢ [] → 0 < last) → (front' ≢ [] → 0 < last') → worth (front ++ last ∷ []) ≡ worth (front' ++ last' ∷ []) → front ++ last ∷ [] ≡ front' ++ last' ∷ []
front-one [] [] last last' all all' lt lt' least least' same =
    ap (λ byte. byte ∷ []) (omega (arith, same, mod-eq_of_lt lt, mod-eq_of_lt lt'))
front-one [] (byte ∷ front) last last' all all' lt lt' least least' same =
    let above = 0-lt-worth front last' (All-tail IsContinued byte front all') lt' (least' (λ e. omega (arith, ap length e))) in
    absurd (omega (arith, same, above, lt, mod-eq_of_lt lt))
front-one (byte ∷ front) [] last last' all all' lt lt' least least' same =
    let above = 0-lt-worth front last (All-tail IsContinued byte front all) lt (least (λ e. omega (arith, ap length e))) in
    absurd (omega (arith, same, above, lt', mod-eq_of_lt lt'))
front-one (byte ∷ front) (byte' ∷ front') last last' all all' lt lt' least least' same =
    let one = All-head IsContinued byte front all in
    let other = All-head IsContinued byte' front' all' in
    let low = low_bits byte one.set one.fits in
    let low' = low_bits byte' other.set other.fits in
    let bytes : byte ≡ byte' = omega (arith, same, low, low', one.set, one.fits, other.set, other.fits) in
    let rest : worth (front ++ last ∷ []) ≡ worth (front' ++ last' ∷ []) = omega (arith, same, low, low', one.set, one.fits, other.set, other.fits) in
    let above : 0 < last = least (λ e. omega (arith, ap length e)) in
    let above' : 0 < last' = least' (λ e. omega (arith, ap length e)) in
    let behind = front-one front front' last last' (All-tail IsContinued byte front all) (All-tail IsContinued byte' front' all') lt lt' (λ _. above) (λ _. above') rest in
    λ i. bytes i ∷ behind i

IsNumber-one : (number : ℕ) (own other : List ℕ) → IsNumber number own → IsNumber number other → own ≡ other
IsNumber-one number own other is also =
    let same : worth (is.front ++ is.last ∷ []) ≡ worth (also.front ++ also.last ∷ []) =
    ap worth (sym is.joined) ∙ (sym is.exact ∙ (also.exact ∙ ap worth also.joined)) in
    is.joined ∙ (front-one is.front also.front is.last also.last is.continued also.continued is.ended also.ended is.shortest also.shortest same ∙ sym also.joined)

-- numbers have one row of bytes
pub AreNumbers-one : (numbers bytes other : List ℕ) → AreNumbers numbers bytes → AreNumbers numbers other → bytes ≡ other
AreNumbers-one [] bytes other same also = same ∙ sym also
AreNumbers-one (number ∷ numbers) bytes other (own, rest, is, are, joined) (own', rest', is', are', joined') =
    let first = IsNumber-one number own own' is is' in
    let more = AreNumbers-one numbers rest rest' are are' in
    joined ∙ ((λ i. first i ++ more i) ∙ sym joined')
