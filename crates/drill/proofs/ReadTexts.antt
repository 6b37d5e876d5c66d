-- What a drill read.
use Rattle.std.proofs.Common.{◌≡◌, ℕ, ◌+◌, ◌≤◌, Bool, true, false, List, [], ◌++◌, length, drop, None, Result, Ok, Err, inl, inr, refl, sym, ap, subst, ◌∙◌, arith, true≢false}
use Rattle.std.specs.Prelude.{OnOk}
use Rattle.std.proofs.lemmas.List.{append-nil, drop_all, drop-append-le, drop-drop, length-append}
use Rattle.std.proofs.lemmas.Bool.Decides.{leb_tells}
use Rattle.drill.specs.declared.begin.TheConstants.{GREATEST_TEXT}
use Rattle.drill.specs.Drilling.{IsRefusedAt, IsSiteText, OfSome}
use Rattle.drill.specs.declared.begin.Stop.{Stop}
use Rattle.drill.specs.declared.begin.Stop.TheVariants.{Input, SiteText, NoMemory}
use Rattle.drill.specs.Finishing.{IsStop}
use Rattle.drill.specs.Runs.{Start}

pub on_ok : {T E P : Type 0} (r : Result T E) → P → OnOk r P
on_ok (Ok x) p = p
on_ok (Err e) p = tt

-- Bytes that are told, and others

pub of_told : (tells : Bool) (told : List ℕ) (holds : List ℕ → Type 0) → tells ≡ true → OfSome tells told holds → holds told
of_told tells told holds t some = subst holds (some.1 t) some.2

-- What was read

-- what is left behind the bytes that were taken
pub left_of : (rest text left : List ℕ) → rest ≡ text ++ left → left ≡ drop (length text) rest
left_of rest text left e =
    sym (ap (drop (length text)) e ∙ drop-append-le (length text) text left (omega arith) ∙ ap (λ (t : List ℕ). t ++ left) (drop_all (length text) text (omega arith)))

-- bytes that were lost behind those that were taken
pub lost_more : (most n : ℕ) (rest text mid left : List ℕ) → rest ≡ text ++ mid → length text + n ≤ most → left ≡ drop n mid → (k : ℕ) × (k ≤ most) × (left ≡ drop k rest)
lost_more most n rest text mid left taken bound e = (length text + n, bound, e ∙ ap (drop n) (left_of rest text mid taken) ∙ drop-drop n (length text) rest)

-- all was taken, or one more than the most
pub all_read : (most : ℕ) (rest text left : List ℕ) → rest ≡ text ++ left → length text ≤ most + 1 → (length text ≤ most → left ≡ []) → left ≡ drop (most + 1) rest
all_read most rest text left e bound none =
    elim (leb_tells (length text) most) [
      | inl short ↦
          let all : rest ≡ text = e ∙ ap (λ (t : List ℕ). text ++ t) (none short.1) ∙ append-nil text in
          none short.1 ∙ sym (ap (drop (most + 1)) all ∙ drop_all (most + 1) text bound)
      | inr long ↦
          let n : length text ≡ most + 1 = omega (arith, bound, long.1) in
          left_of rest text left e ∙ ap (λ (k : ℕ). drop k rest) n
    ]

-- a site that the bytes spell
pub file_read : (tells : Bool) (rest text left : List ℕ) (start : Start) → (tells ≡ true → rest ≡ text ++ left) → (tells ≡ true → length text ≤ GREATEST_TEXT → left ≡ []) → IsSiteText text start → OfSome tells rest (λ t. IsSiteText t start)
file_read tells rest text left start taken none is = (
  text,
  λ t. sym (taken t ∙ ap (λ (l : List ℕ). text ++ l) (none t is.short) ∙ append-nil text),
  is,
)

-- a text that goes on is refused as its front is
refused_longer : (rest text left : List ℕ) (line kind : ℕ) → rest ≡ text ++ left → (length text ≤ GREATEST_TEXT → left ≡ []) → IsRefusedAt text line kind → IsRefusedAt rest line kind
refused_longer rest text left line kind taken none (inl long) =
    inl (record { long = omega (arith, long.long, ap length taken, length-append text left); line_is = long.line_is; kind_is = long.kind_is })
refused_longer rest text left line kind taken none (inr fault) =
    let same : rest ≡ text = taken ∙ ap (λ (l : List ℕ). text ++ l) (none fault.short) ∙ append-nil text in
    subst (λ t. IsRefusedAt t line kind) (sym same) (inr fault)

pub refused_read : (tells : Bool) (rest text left : List ℕ) (line kind : ℕ) → (tells ≡ true → rest ≡ text ++ left) → (tells ≡ true → length text ≤ GREATEST_TEXT → left ≡ []) → IsRefusedAt text line kind → OfSome tells rest (λ t. IsRefusedAt t line kind)
refused_read true rest text left line kind taken none is = (rest, λ t. refl, refused_longer rest text left line kind (taken refl) (none refl) is)
refused_read false rest text left line kind taken none is = (text, λ t. absurd (true≢false (sym t)), is)

-- why nothing begins, of a text that was read
pub stop_of : (tells : Bool) (rest text left : List ℕ) (stop : Stop) → (tells ≡ true → rest ≡ text ++ left) → (tells ≡ true → length text ≤ GREATEST_TEXT → left ≡ []) → IsStop None text stop → OfSome tells rest (λ t. IsStop None t stop)
stop_of tells rest text left Input taken none is = (rest, λ t. refl, refl)
stop_of tells rest text left (SiteText line kind) taken none is =
    let some = refused_read tells rest text left line kind taken none is.1 in
    (some.0, some.1, (refl, some.2))
stop_of tells rest text left NoMemory taken none is = (rest, λ t. refl, tt)
