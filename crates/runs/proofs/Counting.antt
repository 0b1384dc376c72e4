-- What is counted over answers is what the rules count over replies.
use Rattle.std.proofs.Common.{◌≡◌, ℕ, ◌+◌, List, [], ◌∷◌, map, sum_by, sym, refl, ap, ◌∙◌}
use Rattle.std.proofs.lemmas.List.Sums.{sum_by-cons}
use Rattle.ordered.specs.Numbers.{rebuilt}
use Rattle.ordered.specs.Runs.{Asked}
use Rattle.ordered.specs.Sorted.{changed}
use Rattle.rules.specs.Steps.{Reply}
use Rattle.rules.specs.Runs.{frames as frames_replied, changes as changes_replied, rebuildings as rebuildings_replied, told as told_replied}
use Rattle.runs.specs.States.{Answered, told_by}
use Rattle.runs.specs.Runs.{frames, changes, rebuildings, told}

abbrev pub reply_of : Answered → Reply
reply_of a = record { told = told_by a; frames = a.answer.frames; rebuilding = a.answer.rebuilding }

sum_by_map : {X Y : Type 0} (f : Y → ℕ) (g : X → Y) (xs : List X) → sum_by f (map g xs) ≡ sum_by (λ x. f (g x)) xs
sum_by_map f g [] = refl
sum_by_map f g (x ∷ xs) =
    sum_by-cons f (g x) (map g xs) ∙ (ap (λ n. f (g x) + n) (sum_by_map f g xs) ∙ sym (sum_by-cons (λ y. f (g y)) x xs))

pub same_frames : (rs : List Answered) → frames rs ≡ frames_replied (map reply_of rs)
same_frames rs = sym (sum_by_map (λ (r : Reply). r.frames) reply_of rs)

pub same_rebuildings : (rs : List Answered) → rebuildings rs ≡ rebuildings_replied (map reply_of rs)
same_rebuildings rs = sym (sum_by_map (λ (r : Reply). rebuilt r.rebuilding) reply_of rs)

pub same_changes : (cs : List Asked) (rs : List Answered) → changes cs rs ≡ changes_replied cs (map reply_of rs)
unfolding changes changes_replied
same_changes [] rs = refl
same_changes (c ∷ cs) [] = refl
same_changes (c ∷ cs) (a ∷ rs) = ap (λ n. changed c.call a.answer.outcome + n) (same_changes cs rs)

pub same_told : (rs : List Answered) → told rs ≡ told_replied (map reply_of rs)
same_told [] = refl
same_told (a ∷ rs) = ap (λ l. told_by a ∷ l) (same_told rs)
