-- What has parted the places of one variant more.
use Rattle.std.proofs.Common.{ℕ, ◌+◌, List, slice_index_or, subst, sym, refl, add-one}
use Rattle.collection.specs.declared.Collection.{Collection}
use Rattle.heap_calendar.specs.declared.store.HeapCalendar.{HeapCalendar}
use Rattle.sheet.specs.declared.standing.Parting.{Parting}
use Rattle.study.specs.declared.Study.{Study}
use Rattle.dispatch.specs.declared.course.Course.{Course}
use Rattle.dispatch.specs.declared.course.Poised.{Poised}
use Rattle.dispatch.specs.Courses.{Noted, NotedFirst, SameDay, blank_poised}

pub none_noted : (s : Study HeapCalendar Collection) (m : Collection) (all : List Poised) (p : ℕ) (xs : List Parting) → NotedFirst s m all p 0 xs xs
unfolding NotedFirst
none_noted s m all p xs = refl

more_noted : (s : Study HeapCalendar Collection) (m : Collection) (all : List Poised) (p n : ℕ) (old mid new : List Parting) → NotedFirst s m all p n old mid → Noted s m all (slice_index_or all n blank_poised) p mid new → NotedFirst s m all p (n + 1) old new
unfolding NotedFirst
more_noted s m all p n old mid new h k = subst (λ (i : ℕ). NotedFirst s m all p i old new) (sym (add-one n)) (mid, h, k)

pub one_noted : (c d : Course) (all : List Poised) (p n : ℕ) (old mid new : List Parting) → SameDay c d → NotedFirst c.study c.model all p n old mid → Noted d.study d.model all (slice_index_or all n blank_poised) p mid new → NotedFirst c.study c.model all p (n + 1) old new
one_noted c d all p n old mid new same h k =
    more_noted c.study c.model all p n old mid new h (subst (λ (x : Study HeapCalendar Collection × Collection). Noted x.0 x.1 all (slice_index_or all n blank_poised) p mid new) (λ i. (same.study i, same.model i)) k)
