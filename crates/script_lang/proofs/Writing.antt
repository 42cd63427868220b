-- A text that is written piece by piece.
use Rattle.std.proofs.Common.{◌≡◌, ℕ, ◌+◌, ◌-◌, ◌≤◌, List, ◌++◌, length, take, drop, ap, sym, ◌∙◌, arith, append_assoc, length-drop}
use Rattle.std.proofs.Math.Seq.{take-add, take-append_seam}
use Rattle.std.proofs.lemmas.List.{take_all, take-take, length-append}
use Rattle.std.specs.Prelude.{Option, Some, None}
use Rattle.expiring_map.specs.Map.{pairs_of}
use Rattle.meta_record.specs.declared.shown.Shown.{Shown}
use Rattle.region_words.specs.Outside.{Writes}
use Rattle.region_words.specs.Region.{Region, file_size, header, record_of, shown, base}
use Rattle.script_lang.specs.Texts.{record_text, pairs_text, region_text}
use Rattle.script_lang.specs.Written.{Wrote, BeginsWith}

-- what is left of a text behind its first w bytes
pub rest_of : (text : List ℕ) (w : ℕ) → take (length text - w) (drop w text) ≡ drop w text
rest_of text w = take_all (length text - w) (drop w text) (omega (arith, length-drop w text))

pub within_rest : (text : List ℕ) (w n : ℕ) → w ≤ length text → n ≤ length (take (length text - w) (drop w text)) → w + n ≤ length text
within_rest text w n h k = omega (arith, h, k, ap length (rest_of text w), length-drop w text)

pub wrote_more : (old mid new : Option (List ℕ)) (text : List ℕ) (w n : ℕ) →
    Wrote old mid text w → Writes mid new (take n (take (length text - w) (drop w text))) → Wrote old new text (w + n)
wrote_more None None new text w n a b = b
wrote_more None (Some m) new text w n a b = absurd cc
wrote_more (Some o) None new text w n a b = absurd cc
wrote_more (Some o) (Some m) new text w n a b =
    let same : m ≡ o ++ take w text = cc in
    b ∙ ap (λ z. Some (z ++ take n (take (length text - w) (drop w text)))) same ∙ ap (λ z. Some (o ++ take w text ++ take n z)) (rest_of text w)
    ∙ ap Some (append_assoc o (take w text) (take n (drop w text)) ∙ ap (λ z. o ++ z) (sym (take-add w n text)))

-- two pieces one after another
pub two_pieces : (old mid new a b : List ℕ) → mid ≡ old ++ a → new ≡ mid ++ b → new ≡ old ++ (a ++ b)
two_pieces old mid new a b e h = h ∙ ap (λ z. z ++ b) e ∙ append_assoc old a b

-- a list that begins with a longer one begins with what that one begins with
pub begins_with_front : (old mid new a : List ℕ) → mid ≡ old ++ a → BeginsWith new mid → BeginsWith new old
begins_with_front old mid new a e h =
    sym (take-take (length old) (length mid) new (omega (arith, ap length e, length-append old a))) ∙ ap (take (length old)) (h ∙ e) ∙ take-append_seam old a

-- the lines of the words and of the pairs are the region's text
pub region_pieces : (r : Region) (seen : Shown) (old mid new head : List ℕ) → seen ≡ shown r →
    head ≡ record_text (file_size r) (header r) (record_of r) seen → mid ≡ old ++ head → new ≡ mid ++ pairs_text (pairs_of (base r)) → new ≡ old ++ region_text r
region_pieces r seen old mid new head s h e n =
    two_pieces old mid new head (pairs_text (pairs_of (base r))) e n
    ∙ ap (λ z. old ++ (z ++ pairs_text (pairs_of (base r)))) (h ∙ ap (record_text (file_size r) (header r) (record_of r)) s)
