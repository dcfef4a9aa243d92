-- A gate asks its tests one after the other. Assumes nothing.
use mathlib.Core.Path.{◌≡◌, refl, ap, ◌∙◌}
use mathlib.Core.Bool.{true, false}
use mathlib.Core.List.{List, [], ◌∷◌}
use Rattle.answers.specs.Answers.{is_done, first_of, Answer}
use Rattle.answers.specs.Tests.{after_tests}

-- the answer r after the test w, where the answer v before it is u
pub asked : {u v r : Answer} (w : Answer) → v ≡ u → r ≡ first_of v w → r ≡ first_of u w
asked w e n = n ∙ ap (λ (a : Answer). first_of a w) e

-- where the answer u is done the next test decides ..
pub goes_on : (u w : Answer) → is_done u ≡ true → first_of u w ≡ w
goes_on u w d = rw d

-- .. and where it is a refusal it stays
pub stops : (u w : Answer) → is_done u ≡ false → first_of u w ≡ u
stops u w d = rw d

-- whatever is tested after it
pub stays : (v : Answer) (ws : List Answer) → is_done v ≡ false → after_tests v ws ≡ v
stays v [] d = refl
stays v (w ∷ ws) d = rw d (stays v ws d)
