use Rattle.bac_npdu_parts.proofs.laws.canonical_octets_give_the_frame_back.Goals as goal

pub returns : goal.returns
returns c = λ f g b least spelled. c.frames_have_one_value.ensures g f b spelled least.member
