-- Of a stream the codestreams are built again of which a precinct is reached.
use Rattle.std.proofs.Common.{◌≡◌, ◌<◌, ◌≤◌, ◌+◌, ◌-◌, ◌^◌, ℕ, min, Bool, true, false, List, [], ◌∷◌, ◌++◌, length, None, Ok, refl, sym, ◌∙◌, ap, inl, inr, arith, subst, if◌then◌else◌}
use Rattle.std.specs.List.{AllByRecursion, flat_map, enumerate_from}
use Rattle.std.proofs.lemmas.Bool.{cases_Bool, ne_eqb}
use Rattle.std.proofs.lemmas.List.{append-nil, length-append}
use Rattle.std.proofs.lemmas.List.Folds.{flat_map-map}
use Rattle.codestream_model.specs.Values.{Place}
use Rattle.codestream_model.specs.Packet.{Content}
use Rattle.codestream_model.specs.MainHeaderReading.{head_of}
use Rattle.codestream_model.specs.PacketOrder.{packet_order}
use Rattle.codestream_model.proofs.Orders.{packet_order_is_computed, packet_order_is_one}
use Rattle.codestream_model.proofs.HeaderLimits.{header_has_components}
use Rattle.codestream_model.proofs.HeaderReads.{header_is_read_one_way}
use Rattle.stream_model.specs.Arrivals.{in_time}
use Rattle.stream_model.specs.Stream.{Sent, datagrams_of, carried_at, packet_span, main_position}
use Rattle.stream_model.specs.Decoder.{Current, Release}
use Rattle.stream_model.specs.RunLaws.{passing, current_of, releases_of, releases_in, heads_after, releases_reached}
use Rattle.stream_model.proofs.Positions.{placed, are_placed}
use Rattle.stream_model.proofs.RunReach.{reach_lost, passing_none}
use Rattle.stream_model.proofs.RunStates.{test}
use Rattle.stream_model.proofs.RunStream.{IsWhole}
use Rattle.stream_model.proofs.RunLaws.{stream_whole}
use Rattle.stream_model.proofs.ReceiverLaws.{releases_what_is_reached}
use Rattle.stream_model.proofs.InOrderReceived.{zip_length}
use Rattle.rebuild_model.specs.Rebuilding.{codestream_if_any, rebuilt, rebuilt_stream}
use Rattle.rebuild_model.specs.RebuildingLaws.{RebuiltIsWhatIsReached}
use Rattle.rebuild_model.proofs.Rebuilt.{StartsApart, order_apart, codestream_built}

-- packets under main headers that were taken later
abbrev AreLater : ℕ → List Release → Type 0
AreLater n xs = AllByRecursion (λ x. n < x.heads) xs

-- the packets of a codestream are under its main header
later_here : (c : Current) (n m : ℕ) (ps : List Place) (xs : List Content) (bs : List (List ℕ)) → n < m → AreLater n (releases_of c m ps xs bs)
later_here c n m [] xs bs less = tt
later_here c n m (p ∷ ps) [] bs less = tt
later_here c n m (p ∷ ps) (x ∷ xs) [] less = tt
later_here c n m (p ∷ ps) (x ∷ xs) (b ∷ bs) less = (less, later_here c n m ps xs bs less)

-- and so are those that pass
later_passing : (t : ℕ → Bool) (k n : ℕ) (xs : List Release) → AreLater n xs → AreLater n (passing t k xs)
later_passing t k n [] all = tt
later_passing t k n (x ∷ xs) all = elim (t k) as (λ b. AreLater n (if b then x ∷ passing t (k + 1) xs else passing t (k + 1) xs)) [
  | true ↦ (all.0, later_passing t (k + 1) n xs all.1)
  | false ↦ later_passing t (k + 1) n xs all.1
]

later_append : (n : ℕ) (xs ys : List Release) → AreLater n xs → AreLater n ys → AreLater n (xs ++ ys)
later_append n [] ys a b = b
later_append n (x ∷ xs) ys a b = (a.0, later_append n xs ys a.1 b)

later_still : (n m : ℕ) (xs : List Release) → n ≤ m → AreLater m xs → AreLater n xs
later_still n m [] less all = tt
later_still n m (x ∷ xs) less all = (omega (arith, all.0), later_still n m xs less all.1)

-- they are apart from an earlier one
later_apart : (n : ℕ) (xs : List Release) → AreLater n xs → StartsApart n xs
later_apart n [] all = tt
later_apart n (x ∷ xs) all = ne_eqb n x.heads (λ e. omega (arith, all.0))

-- one main header more, while the count has room
counts_on : (n most : ℕ) → n < most → min (n + 1) most ≡ n + 1
counts_on n most room = omega arith

-- of a codestream without its Main nothing passes
none_without_main : (there : ℕ → Bool) (main : ℕ) (s : Sent) (xs : List Release) → there main ≡ false → passing (test there main s) 0 xs ≡ []
none_without_main there main s xs lost = passing_none (test there main s) 0 xs (λ j low high. reach_lost there (carried_at main s) j (packet_span s main j) lost)

-- the packets of the codestreams that follow are under later main headers
all_later : (there : ℕ → Bool) (main n : ℕ) (sent : List Sent) → n + length sent < 2 ^ 64 - 1 → AreLater n (releases_reached there main n sent)
all_later there main n [] room = tt
all_later there main n (s ∷ sent) room =
    let at = main + length (datagrams_of s) in
    elim (cases_Bool (there main)) [
      | inl here ↦
          let heads : heads_after (there main) n ≡ n + 1 = rw here (counts_on n (2 ^ 64 - 1) (omega arith)) in
          rw heads (
          later_append n (passing (test there main s) 0 (releases_in (n + 1) s)) (releases_reached there at (n + 1) sent)
          (later_passing (test there main s) 0 n (releases_in (n + 1) s) (later_here (current_of s) n (n + 1) s.parts.places s.parts.content s.parts.packets (omega arith)))
          (later_still n (n + 1) (releases_reached there at (n + 1) sent) (omega arith) (all_later there at (n + 1) sent (omega arith)))
          )
      | inr away ↦
          let m = heads_after (there main) n in
          let heads : m ≡ n = rw away refl in
          let none : passing (test there main s) 0 (releases_in m s) ≡ [] = none_without_main there main s (releases_in m s) away in
          let P : List Release → Type 0 = λ l. AreLater n l in
          let Q : ℕ → Type 0 = λ k. AreLater n (releases_reached there at k sent) in
          later_append n (passing (test there main s) 0 (releases_in m s)) (releases_reached there at m sent)
          (subst P (sym none) tt) (subst Q (sym heads) (all_later there at n sent (omega arith)))
    ]

-- the codestreams that are built of those whose first Main is at a position
abbrev built_from : (ℕ → Bool) → ℕ → ℕ → List Sent → List ℕ
built_from there i main sent = flat_map (λ l. l) (placed (λ s. length (datagrams_of s)) (λ i at s. codestream_if_any (test there at s) s.parts) i main sent)

-- of nothing nothing is built
nothing_built : rebuilt true None [] ≡ []
unfolding rebuilt
nothing_built = refl

-- each with its own packets
all_built : (there : ℕ → Bool) (i main n : ℕ) (sent : List Sent) → AllByRecursion IsWhole sent → n + length sent < 2 ^ 64 - 1
    → rebuilt true None (releases_reached there main n sent) ≡ built_from there i main sent
all_built there i main n [] whole room = nothing_built
all_built there i main n (s ∷ sent) whole room =
    let c = s.parts in
    let parts = whole.0.parts in
    let m = heads_after (there main) n in
    let at = main + length (datagrams_of s) in
    let rest = releases_reached there at m sent in
    let read : head_of c.header ≡ Ok c.head = ap head_of (sym (append-nil c.header)) ∙ header_is_read_one_way c.head c.header [] parts.is_head in
    let order : packet_order c.head ≡ c.places = packet_order_is_one c.head (packet_order c.head) c.places (packet_order_is_computed c.head (header_has_components c.head c.header parts.is_head).steps) parts.order in
    let few : m + length sent < 2 ^ 64 - 1 = elim (cases_Bool (there main)) [
      | inl here ↦ let heads : m ≡ n + 1 = rw here (counts_on n (2 ^ 64 - 1) (omega arith)) in omega (arith, heads)
      | inr away ↦ let heads : m ≡ n = rw away refl in omega (arith, heads)
    ] in
    codestream_built (test there main s) (current_of s) m c.places c.content c.packets rest read order parts.are_packets (order_apart c.head c.places parts.order) (later_apart m rest (all_later there at m sent few))
    ∙ ap (λ l. codestream_if_any (test there main s) c ++ l) (all_built there (i + 1) at m sent whole.1 few)

-- there are fewer codestreams than datagrams
few_codestreams : (sent : List Sent) → length sent ≤ length (flat_map datagrams_of sent)
few_codestreams [] = omega arith
few_codestreams (s ∷ sent) = omega (arith, few_codestreams sent, length-append (datagrams_of s) (flat_map datagrams_of sent))

-- in the words of the positions
built_placed : (events : List ℕ) (window : ℕ) (sent : List Sent) → rebuilt_stream events window sent ≡ built_from (λ i. in_time events i window) 0 0 sent
built_placed events window sent =
    let there : ℕ → Bool = λ i. in_time events i window in
    sym (flat_map-map (λ (l : List ℕ). l) (λ (x : ℕ × Sent). codestream_if_any (test there (main_position sent x.0) x.1) x.1.parts) (enumerate_from 0 sent))
    ∙ ap (flat_map (λ (l : List ℕ). l)) (are_placed (λ s. length (datagrams_of s)) (λ i at s. codestream_if_any (test there at s) s.parts) sent)

-- of a stream exactly what is reached is built
pub rebuilt_is_what_is_reached : RebuiltIsWhatIsReached
rebuilt_is_what_is_reached sent codestreams datagrams frames events pick c some a =
    let there : ℕ → Bool = λ i. in_time events i pick.window in
    let released = (releases_what_is_reached sent codestreams datagrams frames events pick c some a).1 in
    let size : length (flat_map datagrams_of sent) ≡ length datagrams = zip_length (flat_map datagrams_of sent) datagrams c.are_datagrams in
    ap (rebuilt true None) released
    ∙ (all_built there 0 0 0 sent (stream_whole sent codestreams datagrams c) (omega (arith, few_codestreams sent, size, c.few))
    ∙ sym (built_placed events pick.window sent))
