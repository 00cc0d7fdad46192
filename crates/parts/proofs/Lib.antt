mod Cutting
mod Draining
