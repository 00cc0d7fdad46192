-- The chain stands over the source's first piece.
use Rattle.std.proofs.Common.{◌≡◌, ◌++◌, sym, ap, ◌∙◌, ap₂, rules}
use Rattle.common.specs.declared.format.ChannelCount.{ChannelCount}
use Rattle.common.specs.declared.format.SampleRate.{SampleRate}
use Rattle.source.specs.Meanings.{samples_of, span_len_now, format_now}
use Rattle.source.specs.Samples.{first}
use Rattle.source.specs.Spans.{listed}
use Rattle.channels.specs.Channels.{channels_converted}
use Rattle.rates.specs.Rates.{rate_converted}
use Rattle.sample_rate.specs.Converters.{inner}
use Rattle.sample_rate.specs.declared.SampleRateConverter.{SampleRateConverter}
use Rattle.uniform.specs.Streams.{chain_left, chain_beyond, piece_left}
use Rattle.uniform.specs.Takes.{taken, behind, piece_length}
use Rattle.uniform.specs.Uniform.{uniform}
use Rattle.uniform.specs.declared.take.Take.{Take}
use Rattle.uniform.proofs.Piecewise.{in_format, first_piece, first_of_piece}
use Rattle.uniform.proofs.UniformSourceIterator.bootstrap.Goals as goal

pub returns : goal.returns
returns g c =
    let of = g.S.Source.meaning in
    let m = of c.args.input in
    let f = format_now m in
    let t = c.args.format.channels.count in
    let rate = c.args.format.rate.rate in
    let k = piece_length (span_len_now m) in
    let cut : c.map-n.result ≡ k = search rules in
    let piece : piece_left of c.new.result ≡ taken k (samples_of m) = ap₂ (λ n s. taken n (samples_of (of s))) (c.new.ensures.n ∙ cut) c.new.ensures.iter in
    let left : chain_left of c.new-2.result ≡ in_format t rate f (taken k (samples_of m)) =
    c.new-2.ensures.answer
    ∙ ap (channels_converted c.channels-channels.result.count t) c.new-piece.ensures.answer
    ∙ ap (λ xs. channels_converted c.channels-channels.result.count t (rate_converted c.sample_rate-rate.result.rate rate c.channels-channels.result.count xs)) piece
    ∙ ap₂ (λ (a : ChannelCount) (b : SampleRate). channels_converted a.count t (rate_converted b.rate rate a.count (taken k (samples_of m))))
    c.channels-channels.ensures.answer c.sample_rate-rate.ensures.answer in
    let behind-it : chain_beyond of c.new-2.result ≡ behind k m =
    ap (λ (p : SampleRateConverter (Take g.row.S.Denot)). behind (inner p).n (of (inner p).iter)) c.new-2.ensures.same
    ∙ c.new-piece.ensures.same
    ∙ ap₂ (λ n s. behind n (of s)) (c.new.ensures.n ∙ cut) c.new.ensures.iter in
    record {
      stream = ap₂ (λ xs n. xs ++ uniform t rate (listed n.spans)) left behind-it ∙ sym (first_piece t rate m.rests_at _ m.spans c.args.format.rate.low);
      first = ap first left ∙ first_of_piece t rate m.rests_at _ m.spans c.args.format.channels.low c.args.format.rate.low;
    }
