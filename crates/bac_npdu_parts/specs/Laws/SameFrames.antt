-- Whether two frames are the same is an equivalence, and so for their bodies.
use Rattle.std.proofs.Common.{◌≡◌, true, refl}
use Rattle.std.specs.Cmp.{IsEquivalence, and_equiv, on_equiv, nat_eq_equiv, bool_eq_equiv}
use Rattle.std.specs.Cmp.Lexicographic.{nat_list_eq_equiv, options_equiv}
use Rattle.bac_apdu.specs.Laws.Same.{same_apdu_equiv}
use Rattle.bac_npdu_parts.specs.declared.frame.Body.{Body}
use Rattle.bac_npdu_parts.specs.declared.frame.Body.TheVariants as held
use Rattle.bac_npdu_parts.specs.contracts.message.NetMessageEq.TheImpl.Laws as message_laws
use Rattle.bac_npdu_parts.specs.Same.{same_destination, same_source, same_body, same_front, same_frame}

destination_equiv : IsEquivalence same_destination
destination_equiv = and_equiv (on_equiv (λ d. d.network) nat_eq_equiv) (and_equiv (on_equiv (λ d. d.hops) nat_eq_equiv) (on_equiv (λ d. d.address) nat_list_eq_equiv))

source_equiv : IsEquivalence same_source
source_equiv = and_equiv (on_equiv (λ s. s.network) nat_eq_equiv) (on_equiv (λ s. s.address) nat_list_eq_equiv)

itself : (x : Body) → same_body x x ≡ true
itself (held.Apdu a) = same_apdu_equiv.refl a
itself (held.Net m) = message_laws.laws-law.refl m

turned : (x y : Body) → same_body x y ≡ same_body y x
turned (held.Apdu a) (held.Apdu b) = same_apdu_equiv.symm a b
turned (held.Net m) (held.Net n) = message_laws.laws-law.symm m n
turned _ _ = refl

alike : (x y z : Body) → same_body x y ≡ true → same_body x z ≡ same_body y z
alike (held.Apdu a) (held.Apdu b) (held.Apdu c) h = same_apdu_equiv.congr a b c h
alike (held.Net m) (held.Net n) (held.Net o) h = message_laws.laws-law.congr m n o h
alike (held.Apdu a) (held.Apdu b) _ h = refl
alike (held.Net m) (held.Net n) _ h = refl
alike _ _ _ h = absurd (cc h)

pub same_body_equiv : IsEquivalence same_body
same_body_equiv = record { refl = itself; symm = turned; congr = alike }

front_equiv : IsEquivalence same_front
front_equiv =
    and_equiv (on_equiv (λ f. f.reply) bool_eq_equiv)
    (and_equiv (on_equiv (λ f. f.priority) nat_eq_equiv) (and_equiv (on_equiv (λ f. f.dest) (options_equiv destination_equiv)) (on_equiv (λ f. f.source) (options_equiv source_equiv))))

pub same_frame_equiv : IsEquivalence same_frame
same_frame_equiv = and_equiv front_equiv (on_equiv (λ f. f.body) same_body_equiv)
