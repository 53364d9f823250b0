-- The packets of precincts in packet order, as far as they were put.
use Rattle.std.proofs.Common.{◌≡◌, ◌≤◌, ◌<◌, ◌+◌, ◌++◌, ℕ, zero, suc, Bool, true, false, List, [], ◌∷◌, map, drop, not, length, refl, sym, subst, ◌∙◌, ap, arith, append_assoc}
use Rattle.std.proofs.lemmas.List.{append-nil, drop_more}
use lib.ListN.{get_or}
use Rattle.codestream_model.specs.Values.{Head, Place}
use Rattle.codestream_model.specs.Precincts.{IsPrecinct}
use Rattle.codestream_model.specs.PacketOrder.{packet_order}
use Rattle.codestream_model.specs.Codestream.{joined}
use Rattle.trial_model.specs.Generator.{packet_of, packets_of}
use Rattle.pcrl_order.specs.Ahead.{OrderPlace, rest}
use Rattle.codestream_make.specs.declared.plan.PrecinctPlan.{PrecinctPlan}
use Rattle.codestream_make.specs.declared.gathered.Gathered.{Gathered}
use Rattle.codestream_make.specs.Gathering.{HasGathered}
use Rattle.codestream_make.specs.Making.{content_of, Fits, AllFit}

-- The precincts that are still to come.
abbrev pub to_come : OrderPlace → Bool → List Place
to_come walk true = []
to_come walk false = walk.place ∷ rest walk

-- Whatever contents fit the precincts fit those that are still to come, and their packets follow those that were put.
pub record HasPut (start walk : OrderPlace) (is_over : Bool) (contents : List PrecinctPlan) (n : ℕ) (old new : Gathered) : Type 0 where
  pub head : walk.head ≡ start.head
  pub precinct : IsPrecinct walk.head walk.place
  pub fits : AllFit start.head (to_come walk is_over) (map content_of (drop n contents)) → AllFit start.head (packet_order start.head) (map content_of contents)
  pub must : AllFit start.head (packet_order start.head) (map content_of contents) → AllFit start.head (to_come walk is_over) (map content_of (drop n contents))
  pub gathered : (all : List ℕ) → HasGathered old all
      → (put : List ℕ) × HasGathered new (all ++ put)
      × (joined (packets_of start.head (packet_order start.head) (map content_of contents)) ≡ put ++ joined (packets_of start.head (to_come walk is_over) (map content_of (drop n contents))))

pub none_put : (walk : OrderPlace) (contents : List PrecinctPlan) (g : Gathered) → packet_order walk.head ≡ walk.place ∷ rest walk → IsPrecinct walk.head walk.place
    → HasPut walk walk false contents 0 g g
none_put walk contents g first precinct = record {
  head = refl;
  precinct = precinct;
  fits = (let P : List Place → Type 0 = λ l. AllFit walk.head l (map content_of contents) in λ f. subst P (sym first) f);
  must = (let P : List Place → Type 0 = λ l. AllFit walk.head l (map content_of contents) in λ f. subst P first f);
  gathered = λ all g_all. (
    [],
    (let P : List ℕ → Type 0 = λ l. HasGathered g l in subst P (sym (append-nil all)) g_all),
    ap (λ (l : List Place). joined (packets_of walk.head l (map content_of contents))) first,
  );
}

-- What is still to come after a step of the walk.
pub come_next : (walk next : OrderPlace) (moved : Bool) → (moved ≡ true → rest walk ≡ next.place ∷ rest next) → (moved ≡ false → (rest walk ≡ []) × (next ≡ walk)) → rest walk ≡ to_come next (not moved)
come_next walk next true on last = on refl
come_next walk next false on last = (last refl).0

abbrev All : Head → List Place → List PrecinctPlan → Type 0
All h places plans = AllFit h places (map content_of plans)

abbrev Put : OrderPlace → Gathered → List ℕ → List Place → List PrecinctPlan → List PrecinctPlan → Type 0
Put start g all places plans contents =
    (put : List ℕ) × HasGathered g (all ++ put)
    × (joined (packets_of start.head (packet_order start.head) (map content_of contents)) ≡ put ++ joined (packets_of start.head places (map content_of plans)))

put_more : (start walk next : OrderPlace) (moved : Bool) (contents : List PrecinctPlan) (n : ℕ) (plan : PrecinctPlan) (old mid new : Gathered)
    → HasPut start walk false contents n old mid → drop n contents ≡ plan ∷ drop (n + 1) contents
    → ((all : List ℕ) → HasGathered mid all → HasGathered new (all ++ packet_of walk.head walk.place (content_of plan)))
    → rest walk ≡ to_come next (not moved) → (all : List ℕ) → Put start mid all (walk.place ∷ rest walk) (drop n contents) contents
    → Put start new all (to_come next (not moved)) (drop (n + 1) contents) contents
put_more start walk next moved contents n plan old mid new h here adds come all (put, has, is) =
    let x = content_of plan in
    let packet = packet_of start.head walk.place x in
    let packet_is : packet_of walk.head walk.place x ≡ packet = ap (λ (g : Head). packet_of g walk.place x) h.head in
    let P : List ℕ → Type 0 = λ l. HasGathered new l in (
      put ++ packet,
      subst P (append_assoc all put (packet_of walk.head walk.place x) ∙ ap (λ (l : List ℕ). all ++ (put ++ l)) packet_is) (adds (all ++ put) has),
      is
          ∙ ap (λ (l : List PrecinctPlan). put ++ joined (packets_of start.head (walk.place ∷ rest walk) (map content_of l))) here
          ∙ sym (append_assoc put packet (joined (packets_of start.head (rest walk) (map content_of (drop (n + 1) contents)))))
          ∙ ap (λ (l : List Place). (put ++ packet) ++ joined (packets_of start.head l (map content_of (drop (n + 1) contents)))) come,
    )

pub one_put : (start walk next : OrderPlace) (moved : Bool) (contents : List PrecinctPlan) (n : ℕ) (plan : PrecinctPlan) (old mid new : Gathered)
    → HasPut start walk false contents n old mid → drop n contents ≡ plan ∷ drop (n + 1) contents → Fits walk.head walk.place (content_of plan)
    → ((all : List ℕ) → HasGathered mid all → HasGathered new (all ++ packet_of walk.head walk.place (content_of plan)))
    → next.head ≡ walk.head → rest walk ≡ to_come next (not moved) → IsPrecinct next.head next.place
    → HasPut start next (not moved) contents (n + 1) old new
one_put start walk next moved contents n plan old mid new h here fit adds same come precinct =
    let P : List PrecinctPlan → Type 0 = λ l. All start.head (walk.place ∷ rest walk) l in
    let Q : List Place → Type 0 = λ l. All start.head l (drop (n + 1) contents) in
    let fit_there : Fits start.head walk.place (content_of plan) = (let R : Head → Type 0 = λ g. Fits g walk.place (content_of plan) in subst R h.head fit) in
    record {
      head = same ∙ h.head;
      precinct = precinct;
      fits = λ f. h.fits (subst P (sym here) (fit_there, subst Q (sym come) f));
      must = λ f. subst Q come (subst P here (h.must f)).1;
      gathered = λ all g. put_more start walk next moved contents n plan old mid new h here adds come all (h.gathered all g);
    }

-- All were put.
pub all_put : (start walk : OrderPlace) (contents : List PrecinctPlan) (n : ℕ) (old new : Gathered) → HasPut start walk true contents n old new → drop n contents ≡ []
    → All start.head (packet_order start.head) contents
all_put start walk contents n old new h none =
    let P : List PrecinctPlan → Type 0 = λ l. All start.head [] l in
    h.fits (subst P (sym none) tt)

pub all_gathered : (start walk : OrderPlace) (contents : List PrecinctPlan) (n : ℕ) (old new : Gathered) → HasPut start walk true contents n old new → drop n contents ≡ []
    → (all : List ℕ) → HasGathered old all → HasGathered new (all ++ joined (packets_of start.head (packet_order start.head) (map content_of contents)))
all_gathered start walk contents n old new h none all g =
    let p = h.gathered all g in
    let is = p.2 ∙ ap (λ (l : List PrecinctPlan). p.0 ++ joined (packets_of start.head [] (map content_of l))) none ∙ append-nil p.0 in
    let P : List ℕ → Type 0 = λ l. HasGathered new (all ++ l) in
    subst P (sym is) p.1

-- There are too few contents, or one doesn't fit.
pub too_few : (start walk : OrderPlace) (contents : List PrecinctPlan) (n : ℕ) (old new : Gathered) → HasPut start walk false contents n old new → drop n contents ≡ []
    → All start.head (packet_order start.head) contents → ⊥
too_few start walk contents n old new h none f =
    let P : List PrecinctPlan → Type 0 = λ l. All start.head (walk.place ∷ rest walk) l in
    subst P none (h.must f)

pub fits_next : (start walk : OrderPlace) (contents : List PrecinctPlan) (n : ℕ) (plan : PrecinctPlan) (old new : Gathered) → HasPut start walk false contents n old new
    → drop n contents ≡ plan ∷ drop (n + 1) contents → All start.head (packet_order start.head) contents → Fits walk.head walk.place (content_of plan)
fits_next start walk contents n plan old new h here f =
    let P : List PrecinctPlan → Type 0 = λ l. All start.head (walk.place ∷ rest walk) l in
    let R : Head → Type 0 = λ g. Fits g walk.place (content_of plan) in
    subst R (sym h.head) (subst P here (h.must f)).0

-- A list from an index on, and from its end on.
pub drop_at : (plans : List PrecinctPlan) (n : ℕ) (plan : PrecinctPlan) → n < length plans → plan ≡ get_or plans n plan → drop n plans ≡ plan ∷ drop (n + 1) plans
drop_at plans n plan low is = drop_more plans n plan low ∙ ap (λ (x : PrecinctPlan). x ∷ drop (n + 1) plans) (sym is)

pub drop_end : (plans : List PrecinctPlan) (n : ℕ) → length plans ≤ n → drop n plans ≡ []
drop_end [] zero high = refl
drop_end [] (suc n) high = refl
drop_end (x ∷ plans) zero high = absurd (omega (arith, high))
drop_end (x ∷ plans) (suc n) high = drop_end plans n (omega (arith, high))

-- What is known at the precinct where the walk is.
pub at_walk : (walk : OrderPlace) (h : Head) (p : Place) (plan : PrecinctPlan) → h ≡ walk.head → p ≡ walk.place → Fits h p (content_of plan) → Fits walk.head walk.place (content_of plan)
at_walk walk h p plan e f fit =
    let P : Head → Type 0 = λ g. Fits g p (content_of plan) in
    let Q : Place → Type 0 = λ q. Fits walk.head q (content_of plan) in
    subst Q f (subst P e fit)

pub not_at_walk : (walk : OrderPlace) (h : Head) (p : Place) (plan : PrecinctPlan) → h ≡ walk.head → p ≡ walk.place → Fits walk.head walk.place (content_of plan) → Fits h p (content_of plan)
not_at_walk walk h p plan e f fit =
    let P : Head → Type 0 = λ g. Fits g p (content_of plan) in
    let Q : Place → Type 0 = λ q. Fits walk.head q (content_of plan) in
    subst P (sym e) (subst Q (sym f) fit)

pub adds_at_walk : (walk : OrderPlace) (h : Head) (p : Place) (plan : PrecinctPlan) (mid new : Gathered) → h ≡ walk.head → p ≡ walk.place
    → ((all : List ℕ) → HasGathered mid all → HasGathered new (all ++ packet_of h p (content_of plan)))
    → (all : List ℕ) → HasGathered mid all → HasGathered new (all ++ packet_of walk.head walk.place (content_of plan))
adds_at_walk walk h p plan mid new e f adds all has =
    let P : List ℕ → Type 0 = λ l. HasGathered new (all ++ l) in
    subst P (ap (λ (g : Head). packet_of g p (content_of plan)) e ∙ ap (λ (q : Place). packet_of walk.head q (content_of plan)) f) (adds all has)
