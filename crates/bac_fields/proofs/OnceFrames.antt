-- The fields of a frame, by names, numbers and contents, tell it.
use Rattle.std.specs.Prelude.{◌≡◌, ◌↔◌, ◌⊎◌, ℕ, Option, None, Some, List, [], ◌∷◌, ◌++◌, refl}
use Rattle.std.specs.Option.{option_map}
use Rattle.std.proofs.Common.{sym, ◌∙◌, ap, inl, inr}
use Rattle.bac_tag.specs.Spelling.{Joined}
use Rattle.bac_productions.specs.Productions.{Optional}
use Rattle.bac_apdu.specs.Apdus.{ApduValue, SpellsApdu}
use Rattle.bac_npdu_parts.specs.Addresses.{SourceValue, DestinationValue}
use Rattle.bac_npdu_parts.specs.Frames.{FrameValue, BodyValue, apdu, message, SpellsBody, SpellsFrame}
use Rattle.bac_npdu_parts.specs.Messages.{MessageValue, SpellsMessage}
use Rattle.bac_fields.specs.ApduFields.{apdu_steps}
use Rattle.bac_field_parts.specs.Fields.{Step}
use Rattle.bac_fields.specs.FrameSymbols.{frame_said, body_said, address_said, destination_of_parts}
use Rattle.bac_fields.specs.MessageFields.{message_steps}
use Rattle.bac_field_parts.specs.Symbols.{Symbol, finished, steps_said, Language, Lawful, IsMessage}
use Rattle.bac_fields.specs.Laws.Apdus.{apdu_lawful}
use Rattle.bac_fields.specs.Laws.Frames.{either_body_said, EitherBody, body_leads, FrameParts, from_control_said, parts_frame, said_is}
use Rattle.bac_fields.specs.Laws.Layouts.{messages_lawful}
use Rattle.bac_fields.specs.Laws.Services.{ended}
use Rattle.bac_fields.proofs.FramePlaces.{body_of}
use Rattle.bac_fields.proofs.Once.{Telling, number_tells, held_tells, and_then, perhaps, or_else, by_parts}
use Rattle.bac_fields.proofs.OnceApdus.{apdu_same}
use Rattle.bac_fields.proofs.OnceItems.{plain}
use Rattle.bac_fields.proofs.OnceMessages.{message_same}
use Rattle.bac_fields.proofs.OneFrame.{truth_same}

-- ---- bodies

abbrev to_end : {V : Type 0} → (V → List Step) → V → List Symbol
to_end steps v = steps_said (steps v) ++ finished ∷ []

-- the end of the fields stands behind the last one alone
whole : {V : Type 0} (steps : V → List Step) (S : V → List ℕ → Type 0) {leads : List (Option ℕ)} → Lawful (Language (to_end steps) S) leads → ((v w : V) (b c : List ℕ) → S v b → S w c → to_end steps v ≡ to_end steps w → v ≡ w) → Telling (to_end steps) S leads
whole steps S lawful same = record {
  opens = λ v b h. lawful.opens (to_end steps v) (v, record { octets = b; spelled = h; is_said = refl });
  once = λ v w b c r s h k e. same v w b c h k (ended (steps v) (steps w) r s e).0;
}

abbrev body : ApduValue ⊎ MessageValue → BodyValue
body (inl a) = apdu a
body (inr m) = message m

body_message : IsMessage body_said either_body_said SpellsBody EitherBody
body_message = record { of_parts = body; parts_of = parts; said = said; spelled = spelled }
  where
    parts : (v : BodyValue) (b : List ℕ) → SpellsBody v b → (w : ApduValue ⊎ MessageValue) × (body w ≡ v)
    parts (apdu a) b h = (inl a, refl)
    parts (message m) b h = (inr m, refl)

    said : (w : ApduValue ⊎ MessageValue) → body_said (body w) ≡ either_body_said w
    said (inl a) = refl
    said (inr m) = refl

    spelled : (w : ApduValue ⊎ MessageValue) (b : List ℕ) → EitherBody w b ↔ SpellsBody (body w) b
    spelled (inl a) b = (λ p. p, λ p. p)
    spelled (inr m) b = (λ p. p, λ p. p)

body_tells : Telling body_said SpellsBody body_leads
body_tells = by_parts body_message (or_else (whole apdu_steps SpellsApdu apdu_lawful apdu_same) (whole message_steps SpellsMessage messages_lawful message_same) refl)

-- ---- heads

-- octets do not matter
abbrev Any : {V : Type 0} → V → List ℕ → Type 0
Any v b = Unit {0}

address : (name : ℕ) → Telling (address_said name) Any (Some name ∷ [])
address name = held_tells name (λ v w b c h k n e. ap (λ i. source i v.address) n ∙ ap (λ l. source w.network l) e)
  where
    source : ℕ → List ℕ → SourceValue
    source network address = record { network = network; address = address }

-- the octets of the body
abbrev Headless : FrameParts → List ℕ → Type 0
Headless = Joined (Joined Any Any) (Joined (Optional (Joined Any Any)) (Joined (Optional Any) SpellsBody))

frame_tells : Telling from_control_said Headless (Some 1 ∷ [])
frame_tells = and_then (and_then (plain 1) (number_tells 2 (λ v w b c h k e. truth_same v w e))) (perhaps (and_then (address 3) (plain 4)) (perhaps (address 5) body_tells refl) refl)

-- ---- frames

abbrev address_and_hops : DestinationValue → SourceValue × ℕ
address_and_hops d = (record { network = d.network; address = d.address }, d.hops)

abbrev parts_of : FrameValue → FrameParts
parts_of f = ((f.priority, f.reply), (option_map address_and_hops f.destination, (f.source, f.body)))

parts_back : (f : FrameValue) → parts_frame (parts_of f) ≡ f
parts_back f = ap (λ d. record { reply = f.reply; priority = f.priority; destination = d; source = f.source; body = f.body }) (same f.destination)
  where
    same : (d : Option DestinationValue) → destination_of_parts (option_map address_and_hops d) ≡ d
    same None = refl
    same (Some d) = refl

parts_said : (f : FrameValue) → frame_said f ≡ from_control_said (parts_of f)
parts_said f = ap frame_said (sym (parts_back f)) ∙ said_is (f.priority, f.reply) (option_map address_and_hops f.destination) f.source f.body

parts_spelled : (w : FrameParts) (b : List ℕ) → SpellsBody w.1.1.1 b → Headless w b
parts_spelled w b h = record {
  front = [];
  back = b;
  first = record { front = []; back = []; first = tt; second = tt; octets = refl };
  second = record { front = []; back = b; first = destination w.1.0; second = record { front = []; back = b; first = source w.1.1.0; second = h; octets = refl }; octets = refl };
  octets = refl;
}
  where
    destination : (d : Option (SourceValue × ℕ)) → Optional (Joined Any Any) d []
    destination None = refl
    destination (Some d) = record { front = []; back = []; first = tt; second = tt; octets = refl }

    source : (s : Option SourceValue) → Optional Any s []
    source None = refl
    source (Some s) = tt

pub frame_same : (f g : FrameValue) (b c : List ℕ) → SpellsFrame f b → SpellsFrame g c → frame_said f ≡ frame_said g → f ≡ g
frame_same f g b c h j e =
    let first = body_of f b h in
    let second = body_of g c j in
    let same = frame_tells.once (parts_of f) (parts_of g) first.0 second.0 [] [] (parts_spelled (parts_of f) first.0 first.1) (parts_spelled (parts_of g) second.0 second.1) (ap (λ l. l ++ []) (sym (parts_said f) ∙ e ∙ parts_said g)) in
    sym (parts_back f) ∙ ap parts_frame same ∙ parts_back g
