-- How a page comes about, line by line.
use Rattle.std.proofs.Common.{◌≡◌, ℕ, ◌+◌, List, [], ◌∷◌, ◌++◌, sym, ap, ◌∙◌, subst, append_assoc, append-nil}
use Rattle.command.specs.Meanings.{Meaning, Means}
use Rattle.model.specs.Soundness.{Sound}
use Rattle.reservoir.specs.Meaning.{Make}
use Rattle.session.specs.Entries.{Answer}
use Rattle.session.specs.Equipments.{Equipping}
use Rattle.session.specs.Follows.{FollowsRules}
use Rattle.session.specs.Rules.{Done, line_does, finishes}
use Rattle.session.specs.Stages.{Session}
use Rattle.page.specs.Pages.{page_from, EachMeans}
use Rattle.page.specs.Printed.{answer_line}

-- Some lines of a sheet are read and their page is printed, with the session that they led to from the one at the start; the others are ahead. n is the number of
-- lines read.
pub record Progress (makes : List Make) (equipped : Equipping) (start : Session) (lines ahead : List (List ℕ)) (s : Session) (n : ℕ) (page : List ℕ) : Type 0 where
  pub read : List (List ℕ)
  pub meanings : List Meaning
  pub whole : lines ≡ read ++ ahead
  pub means : EachMeans read meanings
  pub printed : (rest : List Meaning) → page ++ page_from makes equipped s (n + 1) rest ≡ page_from makes equipped start 1 (meanings ++ rest)
  pub sound : Sound makes s.district

pub starts : (makes : List Make) (equipped : Equipping) (start : Session) (lines ahead : List (List ℕ)) (n : ℕ) → ahead ≡ lines → n ≡ 0 →
    Sound makes start.district → Progress makes equipped start lines ahead start n []
starts makes equipped start lines ahead n a z sound = record {
  read = [];
  meanings = [];
  whole = sym a;
  means = tt;
  printed = λ rest. ap (λ (k : ℕ). page_from makes equipped start (k + 1) rest) z;
  sound = sound;
}

each_more : (ls : List (List ℕ)) (ms : List Meaning) (l : List ℕ) (m : Meaning) → EachMeans ls ms → Means l m → EachMeans (ls ++ (l ∷ [])) (ms ++ (m ∷ []))
each_more [] [] l m h k = (k, tt)
each_more [] (x ∷ ms) l m h k = elim h [ ]
each_more (x ∷ ls) [] l m h k = elim h [ ]
each_more (x ∷ ls) (y ∷ ms) l m h k = (h.0, each_more ls ms l m h.1 k)

-- a page goes on with what a line prints
page_on : (makes : List Make) (equipped : Equipping) (s t : Session) (n : ℕ) (m : Meaning) (answer : Answer) (rest : List Meaning) →
    line_does makes equipped s m ≡ record { answer = answer; after = t } →
    page_from makes equipped s n (m ∷ rest) ≡ answer_line n answer ++ page_from makes equipped t (n + 1) rest
unfolding page_from
page_on makes equipped s t n m answer rest e = ap (λ (d : Done). answer_line n d.answer ++ page_from makes equipped d.after (n + 1) rest) e

pub goes_on : (makes : List Make) (equipped : Equipping) (start : Session) (lines ahead further : List (List ℕ)) (s t : Session) (n k number : ℕ) (page longer : List ℕ)
    (l : List ℕ) (m : Meaning) (answer : Answer) → Progress makes equipped start lines ahead s n page → ahead ≡ l ∷ further → number ≡ n + 1 → k ≡ n + 1 →
    Means l m → FollowsRules makes equipped s m answer t → longer ≡ page ++ answer_line number answer → Progress makes equipped start lines further t k longer
goes_on makes equipped start lines ahead further s t n k number page longer l m answer p a e z means follows print =
    let done = follows p.sound in
    record {
      read = p.read ++ (l ∷ []);
      meanings = p.meanings ++ (m ∷ []);
      whole = p.whole ∙ ap (λ (x : List (List ℕ)). p.read ++ x) a ∙ sym (append_assoc p.read (l ∷ []) further);
      means = each_more p.read p.meanings l m p.means means;
      printed = λ rest.
          ap (λ (x : List ℕ). x ++ page_from makes equipped t (k + 1) rest) (print ∙ ap (λ (i : ℕ). page ++ answer_line i answer) e)
          ∙ ap (λ (i : ℕ). (page ++ answer_line (n + 1) answer) ++ page_from makes equipped t (i + 1) rest) z
          ∙ append_assoc page (answer_line (n + 1) answer) (page_from makes equipped t (n + 1 + 1) rest)
          ∙ ap (λ (x : List ℕ). page ++ x) (sym (page_on makes equipped s t (n + 1) m answer rest done.0))
          ∙ p.printed (m ∷ rest)
          ∙ ap (page_from makes equipped start 1) (sym (append_assoc p.meanings (m ∷ []) rest));
      sound = done.1;
    }

pub ends : (makes : List Make) (equipped : Equipping) (start : Session) (lines ahead : List (List ℕ)) (s : Session) (n : ℕ) (page longer : List ℕ) (answer : Answer) →
    Progress makes equipped start lines ahead s n page → ahead ≡ [] → answer ≡ finishes s.stage → longer ≡ page ++ answer_line (n + 1) answer →
    (meanings : List Meaning) × EachMeans lines meanings × (longer ≡ page_from makes equipped start 1 meanings)
unfolding page_from
ends makes equipped start lines ahead s n page longer answer p a e print = (
  p.meanings,
  subst (λ (x : List (List ℕ)). EachMeans x p.meanings) (sym (p.whole ∙ ap (λ (x : List (List ℕ)). p.read ++ x) a ∙ append-nil p.read)) p.means,
  print ∙ ap (λ (x : Answer). page ++ answer_line (n + 1) x) e ∙ p.printed [] ∙ ap (page_from makes equipped start 1) (append-nil p.meanings),
)
