mod Lines
mod Named
